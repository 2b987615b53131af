use Rattle.bpf_text.proofs.Runs.{run_all}
use Rattle.bpf_text.proofs.fields.all_word.Goals as goal

pub returns : goal.returns
returns c = run_all c.args.octets.now c.run_len.result c.run_len.ensures.bound c.run_len.ensures.run c.run_len.ensures.longest

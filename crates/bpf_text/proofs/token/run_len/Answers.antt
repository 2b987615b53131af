use Rattle.std.proofs.Common.{rules, tests}
use Rattle.bpf_text.proofs.Scanning.{run_front}
use Rattle.bpf_text.proofs.token.run_len.Goals as goal

pub returns-clause-run : goal.returns-clause-run
returns-clause-run c = run_front c.args.text.now c.unwrap_or.result (search (rules, tests)) (λ k h. search (rules, tests))

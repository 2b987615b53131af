use Rattle.std.proofs.Common.{rules, tests}
use Rattle.bpf_text.proofs.Scanning.{blank_front, whole_drop}
use Rattle.bpf_text.proofs.token.without_blanks.Goals as goal

pub returns : goal.returns
returns c = rw (whole_drop c.args.line.now c.unwrap_or-blanks.result) (record { same = blank_front c.args.line.now c.unwrap_or-blanks.result (search (rules, tests)) (λ k h. search (rules, tests)) (λ h. search (rules, tests)) })

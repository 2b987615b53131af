use Rattle.ocp_console.proofs.script.refuse.Goals as goal

pub write_whole-requires : goal.write_whole-requires
write_whole-requires g c = c.requires (λ e. absurd cc)

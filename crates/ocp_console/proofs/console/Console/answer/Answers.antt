use Rattle.std.proofs.Common.{◌≡◌, ◌∙◌, List, ℕ, ap, sym, Some, None, refl}
use Rattle.ocp_lines.specs.Grammar.{Meaning, command_of}
use Rattle.ocp_console.specs.Answering.{State, Effect, state_of, effect_of, response, respond}
use Rattle.ocp_console.proofs.console.Console.answer.Goals as goal

-- a line that says nothing asks for nothing
asks_nothing : (state : State) (line : List ℕ) → None ≡ command_of state.profile line → respond state line ≡ None
unfolding respond
asks_nothing state line says = ap (response state) (sym says)

-- one that says a command asks for its effect
asks_for : (state : State) (line : List ℕ) (said : Meaning) (effect : Effect) → Some said ≡ command_of state.profile line → effect ≡ effect_of state said → respond state line ≡ Some effect
unfolding respond
asks_for state line said effect says is = ap (response state) (sym says) ∙ ap Some (sym is)

pub returns-in-Some-Work : goal.returns-in-Some-Work
returns-in-Some-Work g c = (asks_for (state_of c.args.self.now) c.args.line.now _ _ (rw c.in-Some-Work.field-0-is at (rw c.in-Some-Work.is at c.in_ok-read_command.ensures.command)) refl, refl)

pub returns : goal.returns
returns g c = (asks_for (state_of c.args.self.now) c.args.line.now _ _ (rw c.in-Some.is at c.in_ok-read_command.ensures.command) c.in_ok-obey-in-Some.ensures, tt)

pub returns-in-None : goal.returns-in-None
returns-in-None g c = (refl, asks_nothing (state_of c.args.self.now) c.args.line.now (rw c.in-None.is at c.in_ok-read_command.ensures.command))

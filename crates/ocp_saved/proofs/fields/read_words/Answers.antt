use Rattle.std.proofs.Common.{length, refl}
use Rattle.ocp_saved.proofs.Items.{words_read}
use Rattle.ocp_saved.proofs.fields.read_words.Goals as goal

pub returns : goal.returns
returns c = words_read c.read_u64_into.new.dst c.args.octets.now _ (length c.args.words.now) c.read_u64_into.auto.dst refl c.read_u64_into.ensures

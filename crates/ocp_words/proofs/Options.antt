-- What a typed getter read.
use Rattle.std.proofs.Common.{◌≡◌, ℕ, List, Option, Some, None, Result, Ok, refl, sym, ◌∙◌, subst}
use Rattle.ocp_profile.specs.declared.profile.Profile.{Profile}
use Rattle.clap.specs.Matches.{ReadsOne}
use Rattle.std.specs.Prelude.{codes, IfSome}
use Rattle.clap.specs.Words.{Row}
use Rattle.ocp_words.specs.Jobs.{HasNumber, HasProfile, HasSettings}
use Rattle.ocp_words.specs.declared.job.Settings.{Settings}

pub one_read : {T E : Type 0} (gives : List ℕ → Result T E → Type 0) (o : Option (List ℕ)) (r : Option T) (v : T) → r ≡ Some v → (o ≡ None → r ≡ None) → ((t : List ℕ) → o ≡ Some t → ReadsOne gives t r) → (t : List ℕ) × (o ≡ Some t) × gives t (Ok v)
one_read gives None r v is none some = let bad = sym (none refl) ∙ is in absurd cc
one_read {T} gives (Some t) r v is none some = (t, refl, subst (λ (x : Option T). ReadsOne gives t x) is (some t refl))

pub some_settings : (rows : List Row) (profile : Profile) (apid pool journal : ℕ) (o : Option Settings) → IfSome o (λ s. (s.profile ≡ profile) × (s.apid ≡ apid) × (s.pool_words ≡ pool) × (s.capacity ≡ journal))
    → HasProfile rows profile → HasNumber 16 (codes "apid") rows apid → HasNumber 16 (codes "pool") rows pool → HasNumber 32 (codes "journal") rows journal → IfSome o (HasSettings rows)
some_settings rows profile apid pool journal None e q a p j = tt
some_settings rows profile apid pool journal (Some s) e q a p j = record {
  profile = subst (HasProfile rows) (sym e.0) q;
  apid = subst (HasNumber 16 (codes "apid") rows) (sym e.1) a;
  pool_words = subst (HasNumber 16 (codes "pool") rows) (sym e.2) p;
  capacity = subst (HasNumber 32 (codes "journal") rows) (sym e.3) j;
}

-- A slab of records, each with an id of its own, as a map from id to what is shown of the record.
use Rattle.std.specs.Prelude.{◌≡◌, ◌≢◌, ℕ, ◌+◌, ◌≤◌, List, Vec, map, vec_capacity, vec_len, Some}
use Rattle.std.specs.Ordering.{nat_cmp}
use Rattle.std.specs.FinMap as map
use Rattle.std.specs.FinMap.{FinMap, from_entries}
use Rattle.obcp_types.specs.declared.pending.Due.{Due}
use Rattle.ocp_table.specs.declared.table.TheConstants.{MAX_PROCEDURES}
use Rattle.std.specs.List.{All}
use Rattle.ocp_profile.specs.declared.profile.Profile.{Profile}
use Rattle.bpf_step.specs.Machine.{HasMemoryOf}
use Rattle.ocp_table.specs.Records.{Execution, Rec, Records}
use Rattle.ocp_table.specs.Outbox.{HasPlaces}
use Rattle.slab.specs.Slab.{Slab, get, entries, slab_len, with_value}

module _ {T : Type 0} (id_of : T → ℕ) where
  -- no id is under two keys
  abbrev pub IsDistinct : Slab T → Type 0
  IsDistinct s =
      (i j : ℕ) (r q : T) → get s i ≡ Some r → get s j ≡ Some q → id_of r ≡ id_of q → i ≡ j

  -- no record has this id
  abbrev pub IsAbsent : Slab T → ℕ → Type 0
  IsAbsent s id = (key : ℕ) (r : T) → get s key ≡ Some r → id_of r ≢ id

  -- no more records than a table may hold, room for that many, and no id under two keys
  pub record IsSound (s : Slab T) : Type 0 where
    pub distinct : IsDistinct s
    pub few : slab_len s ≤ MAX_PROCEDURES
    pub room : MAX_PROCEDURES ≤ s.capacity

module _ {T X : Type 0} (id_of : T → ℕ) (shown : T → X) where
  abbrev pub contents : Slab T → FinMap nat_cmp X
  contents s = from_entries (map (λ e. (id_of e.1, shown e.1)) (entries s))

  -- a record is under this key, and is the one that the map has under this id; another one with
  -- this id may replace it
  pub record IsUnder (s : Slab T) (key id : ℕ) : Type 0 where
    pub held : T
    pub at : get s key ≡ Some held
    pub named : (r : T) → get s key ≡ Some r → id_of r ≡ id
    pub there : (r : T) → get s key ≡ Some r → map.get (contents s) id ≡ Some (shown r)
    pub put : (new : T) → id_of new ≡ id →
        contents (with_value s key new) ≡ map.insert (contents s) id (shown new)
    pub sound : (new : T) → id_of new ≡ id → IsSound id_of (with_value s key new)

module _ {T : Type 0} (id_of : T → ℕ) (shown : T → Rec) where
  -- and there is room for what is pending and what waits
  pub record IsHolding (s : Slab T) (outbox : List Due) : Type 0 where
    pub sound : IsSound id_of s
    pub places : HasPlaces (contents id_of shown s) outbox

-- each procedure that a table may hold has a program and a machine: its own, or spare ones, for all
-- of which there is room
module _ {T X Z : Type 0} where
  pub record IsStocked (s : Slab T) (spares : Vec X Z) : Type 0 where
    pub all : slab_len s + vec_len spares ≡ MAX_PROCEDURES
    pub room : MAX_PROCEDURES ≤ vec_capacity spares

-- each machine has the addresses of the table's profile: those of the records, and the spare ones
pub record HasMemories (profile : Profile) (m : Records) (spares : List Execution) : Type 0 where
  pub held : (id : ℕ) (r : Rec) → map.get m id ≡ Some r → HasMemoryOf profile r.machine
  pub spare : All (λ (e : Execution). HasMemoryOf profile e.machine) spares

-- What a journal keeps of its entries.
use Rattle.std.specs.Prelude.{◌≡◌, ◌≤◌, ◌*◌, ◌^◌, map, length, vec_len, vec_capacity}
use Rattle.ocp_profile.specs.declared.limits.TheConstants.{MAX_APID, MAX_POOL_WORDS, MAX_CAPACITY}
use Rattle.ocp_core.specs.Log.{Log, expand, world_of}
use Rattle.ocp_core.specs.Marks.{entries_with_marks}
use Rattle.ocp_core.specs.Journal.{entry_of, entry_with_mark}
use Rattle.ocp_core.specs.declared.journal.Journal.TheInside.{Inside}

module _ {A : Type 0} where
  abbrev pub log_of : Inside A → Log
  log_of j = record {
    profile = j.profile;
    apid = j.apid;
    words = j.words;
    capacity = j.capacity;
    entries = map entry_of j.entries.items;
  }

  pub record IsKept (j : Inside A) : Type 0 where
    pub named : j.apid ≤ MAX_APID
    pub words_from : 1 ≤ j.words
    pub words_to : j.words ≤ MAX_POOL_WORDS
    pub few : vec_len j.entries ≤ j.capacity
    pub room : j.capacity ≤ vec_capacity j.entries
    pub limit : j.capacity ≤ MAX_CAPACITY
    pub counted : j.events ≡ length (expand (map entry_of j.entries.items))
    pub numbered : j.events ≡ (world_of (log_of j)).events
    pub bounded : j.events ≤ 2 ^ 32 * vec_len j.entries
    pub marks : map entry_with_mark j.entries.items ≡ entries_with_marks (log_of j)

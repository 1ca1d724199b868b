-- An index with a handle is that of an entry.
use Rattle.std.proofs.Common.{◌≡◌, ℕ, List, refl, Option, Some, None}
use Rattle.std.specs.Prelude.{IsSome}
use Rattle.vch_entry.specs.declared.table.Entry.{Entry}
use Rattle.vch_entry.specs.Entries.{handle_at, entry_at, handle_of}

pub there_of : (slots : List (Option Entry)) (i h : ℕ) → handle_at slots i ≡ Some h → IsSome (entry_at slots i)
there_of slots i h e = by (entry_at slots i) e
  where
    by : (o : Option Entry) → handle_of o ≡ Some h → IsSome o
    by None e = absurd (cc)
    by (Some x) e = refl

pub entry_of_handle : (slots : List (Option Entry)) (i h : ℕ) (P : Type 0) → handle_at slots i ≡ Some h → ((e : Entry) → entry_at slots i ≡ Some e → e.handle ≡ h → P) → P
entry_of_handle slots i h P e f = by (entry_at slots i) refl e
  where
    by : (o : Option Entry) → entry_at slots i ≡ o → handle_of o ≡ Some h → P
    by None q e = absurd (cc)
    by (Some x) q e = let n : x.handle ≡ h = cc in f x q n

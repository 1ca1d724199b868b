-- The value that a named voucher has at a key.
use Rattle.std.proofs.Common.{◌≡◌, ℕ, Bool, true, false, List, [], ◌∷◌, refl, sym, ap, ◌∙◌, subst, Option, Some, None}
use Rattle.std.specs.Prelude.{is_some, IsSome, ◌==◌, if◌then◌else◌}
use Rattle.vch_base.specs.declared.key.Key.{Key}
use Rattle.vch_base.specs.declared.places.Live.{Live}
use Rattle.vch_base.specs.Keyed.{Keyed, of_key}
use Rattle.vch_base.specs.Managers.{live_at}
use Rattle.vch_entry.specs.declared.table.Entry.{Entry}
use Rattle.vch_entry.specs.Entries.{entry_at, handle_at}
use Rattle.vch_entry.specs.Entries as entries
use Rattle.vch_model.specs.Lines.{is_task}
use Rattle.vch_machine.specs.Naming.{handles_of}
use Rattle.vch_machine.specs.State as machine
use Rattle.vch_machine.specs.State.{Handles, Living, Machine, tasked, living_at}
use Rattle.vch_legal.specs.Tie.{Ties}
use Rattle.vch_legal.proofs.CallerLemmas.{names_live, LiveAt, LiveAll, AllLive}
use Rattle.vch_frame.specs.Pairs.{Optional}
use Rattle.vch_frame.specs.Indices.{index_of}
use Rattle.vch_frame.specs.Living.{IsLiving}
use Rattle.vch_values.specs.Parts.{KeyParts, number_at}
use Rattle.vch_vouchers.specs.Desks.{Named, Voucher, desk, voucher_of}
use Rattle.vch_parts.specs.declared.parts.Parts.{Parts}
use Rattle.vch_parts.specs.Plain.{Part, part_of}
use Rattle.vch_parts.specs.Reached.{plain_of, Reached}
use Rattle.vch_parts.specs.Shape.{IsIndexOf, IsMap}
use Rattle.vch_parts.specs.Stands.{StandsFor}
use Rattle.vch_parts.proofs.CallerLemmas.{from_end, in_parts, range, part_at, at_key}
use Rattle.vch_moves.proofs.CallerLemmas.{voucher_is}
use Rattle.vch_replies.specs.Told.{named_by, handle_in}

-- An index that has a handle is that of an entry.

entry_there : (e : Option Entry) (h : ℕ) → entries.handle_of e ≡ Some h → IsSome e
entry_there None h q = absurd (cc)
entry_there (Some e) h q = refl

index_there : (x : Keyed KeyParts) (k : Key) (i : ℕ) (o : Option ℕ) → Optional (IsIndexOf x k) (Some i) o → IsSome (entry_at (of_key k x).entries.slots i)
index_there x k i None q = absurd q
index_there x k i (Some h) q = entry_there (entry_at (of_key k x).entries.slots i) h q

-- The vouchers of names are live.

name_live : (live : List Living) (names : List machine.Named) (name : ℕ) (w : Handles) → AllLive live names → handles_of names name ≡ Some w → LiveAll live w
name_live live [] name w a e = absurd (cc)
name_live live (n ∷ names) name w a e = by (n.name == name) (λ q. name_live live names name w a.1 q) e
  where
    some_eq : (u v : Handles) → Some u ≡ Some v → u ≡ v
    some_eq u v e = cc

    by : (b : Bool) → (handles_of names name ≡ Some w → LiveAll live w) → (if b then Some n.voucher else handles_of names name) ≡ Some w → LiveAll live w
    by true r q = subst (LiveAll live) (some_eq n.voucher w q) a.0
    by false r q = r q

live_there : (n : ℕ) (l : Option Live) (a : Option Living) → IsLiving n l a → is_some a ≡ true → IsSome l
live_there n None None i e = absurd (cc)
live_there n None (Some a) i e = absurd i
live_there n (Some l) a i e = refl

module _ (p : Parts) (t : ℕ) (reached : Reached p) (task : is_task p.scenario t ≡ true) where
  pub desk_names : (part_of (plain_of p) t).names ≡ (desk p.vouchers t).names
  desk_names = let n = range p t reached task in ap (λ (x : Part). x.names) (part_at p.vouchers p.frames t n.0 n.1)

  pub named_is : (name : ℕ) (o : Option Voucher) → voucher_of (desk p.vouchers t).names name ≡ o → named_by (plain_of p) t name ≡ o
  named_is name o e = ap (λ (ns : List Named). voucher_of ns name) desk_names ∙ e

  -- in some state that the parts stand for, the name has handles
  handles_there : (name : ℕ) (v : Voucher) (P : Type 0) → voucher_of (desk p.vouchers t).names name ≡ Some v
      → ((m : Machine) (w : Handles) → StandsFor p.scenario (plain_of p) m → LiveAll m.live w → IsMap p.values v w → P) → P
  handles_there name v P e f = from_end p.scenario (plain_of p) P reached.end (λ m s ties.
      let n = in_parts p.scenario (plain_of p) m t s ties task in
      by m s ties (handles_of (tasked m t).names name) refl
      (subst (λ o. Optional (IsMap p.values) o (handles_of (tasked m t).names name)) (named_is name (Some v) e)
      (voucher_is p.values (part_of (plain_of p) t).names (tasked m t).names name (s.shape.tasks t n.0 n.1).names)))
    where
      by : (m : Machine) → StandsFor p.scenario (plain_of p) m → Ties p.scenario m → (o : Option Handles) → handles_of (tasked m t).names name ≡ o → Optional (IsMap p.values) (Some v) o → P
      by m s ties None q z = absurd z
      by m s ties (Some w) q z = f m w s (name_live m.live (tasked m t).names name w (names_live p.scenario m t ties.fits) q) z

  module _ (name : ℕ) (k : Key) where
    pub entry_named : (v : Voucher) (i : ℕ) → voucher_of (desk p.vouchers t).names name ≡ Some v → index_of k v ≡ Some i → IsSome (entry_at (of_key k p.values).entries.slots i)
    entry_named v i e there = handles_there name v _ e (λ m w s live map.
        index_there p.values k i (of_key k w) (subst (λ o. Optional (IsIndexOf p.values k) o (of_key k w)) there (at_key p.values k v w map)))

    -- the handle that the voucher has there is live
    pub live_voucher : (v : Voucher) (h : ℕ) → voucher_of (desk p.vouchers t).names name ≡ Some v → handle_in (of_key k p.values) (index_of k v) ≡ Some h → IsSome (live_at (of_key k p.values).kept.slots h)
    live_voucher v h e there = handles_there name v _ e (λ m w s live map.
        by m s (index_of k v) (of_key k w) (at_key p.values k v w map) there (live k))
      where
        some_eq : (a b : ℕ) → Some a ≡ Some b → a ≡ b
        some_eq a b e = cc

        by : (m : Machine) → StandsFor p.scenario (plain_of p) m → (i o : Option ℕ) → Optional (IsIndexOf p.values k) i o → handle_in (of_key k p.values) i ≡ Some h → LiveAt m.live k o → IsSome (live_at (of_key k p.values).kept.slots h)
        by m s None o z e l = absurd (cc)
        by m s (Some i) None z e l = absurd z
        by m s (Some i) (Some g) z e l =
            live_there (number_at (of_key k p.values).numbers h) (live_at (of_key k p.values).kept.slots h) (living_at m.live (record { key = k; handle = h })) ((s.keyed k).living h)
            (ap (λ n. is_some (living_at m.live (record { key = k; handle = n }))) (some_eq h g (sym e ∙ z)) ∙ l)

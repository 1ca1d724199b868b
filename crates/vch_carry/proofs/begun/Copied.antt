-- A call begins with a copy of a voucher.
use Rattle.std.proofs.Common.{◌≡◌, ℕ, ◌+◌, ◌<◌, true, false, List, refl, sym, ap, ◌∙◌, subst, Option, Some, None}
use Rattle.std.specs.Prelude.{◌^◌, IfSome, IsSome}
use Rattle.vch_base.specs.declared.key.Key.{Key}
use Rattle.vch_base.specs.declared.key.Key.TheVariants as keys
use Rattle.vch_base.specs.declared.kind.Kind.TheVariants as kinds
use Rattle.vch_base.specs.Keyed.{Keyed, of_key, with_key}
use Rattle.vch_entry.specs.Entries.{AreBelow, entry_at, refs_of}
use Rattle.vch_model.specs.Lines.{is_task}
use Rattle.vch_model.specs.declared.call.Call.{Call}
use Rattle.vch_machine.specs.Beginning as begins
use Rattle.vch_machine.specs.Beginning.{begin_call, store_reply}
use Rattle.vch_machine.specs.Frames as frames
use Rattle.vch_machine.specs.Naming.{is_known}
use Rattle.vch_machine.specs.Next.{nth_call}
use Rattle.vch_machine.specs.State.{Handles, Machine}
use Rattle.vch_frame.specs.Pairs.{Optional}
use Rattle.vch_frame.specs.Indices.{index_of}
use Rattle.vch_frame.proofs.CallerLemmas.{entry_of_handle}
use Rattle.vch_values.specs.Parts.{KeyParts}
use Rattle.vch_parts.specs.declared.frames.Working.{Working}
use Rattle.vch_parts.specs.declared.parts.Parts.{Parts}
use Rattle.vch_parts.specs.Framed.{frame_of, begun_of, with_frame_of, with_begun_of}
use Rattle.vch_parts.specs.Plain.{Indices, Plain}
use Rattle.vch_parts.specs.Reached.{plain_of, Reached, IsState, IsNext, MayFollow}
use Rattle.vch_parts.specs.Shape.{IsMap, IsIndexOf}
use Rattle.vch_parts.proofs.CallerLemmas.{at_key, refer_counts}
use Rattle.vch_moves.specs.Desks.{AllApart}
use Rattle.vch_moves.specs.Shares.{SharesAt, SharesAll}
use Rattle.vch_moves.specs.Steps.{fresh_frame, copied, machine_begun}
use Rattle.vch_moves.proofs.CallerLemmas.{copied_stands, may_follow}
use Rattle.vch_carry.specs.Carried.{MayShareAt, MayShare}
use Rattle.vch_carry.proofs.glue.Begun.{begun, opened_is}

-- One key after the other.

pub same_put : (k : Key) (x : Keyed KeyParts) → x ≡ with_key k (of_key k x) x
same_put keys.Importance x = refl
same_put keys.Bank x = refl
same_put keys.User x = refl
same_put keys.Test x = refl

module _ (v : Indices) (x0 x1 x2 x3 x4 : Keyed KeyParts) (a : x1 ≡ with_key keys.Importance (of_key keys.Importance x1) x0) (b : x2 ≡ with_key keys.Bank (of_key keys.Bank x2) x1)
    (c : x3 ≡ with_key keys.User (of_key keys.User x3) x2) (d : x4 ≡ with_key keys.Test (of_key keys.Test x4) x3) where
  bank_1 : x1.bank ≡ x0.bank
  bank_1 = ap (λ (x : Keyed KeyParts). x.bank) a

  user_2 : x2.user ≡ x0.user
  user_2 = ap (λ (x : Keyed KeyParts). x.user) b ∙ ap (λ (x : Keyed KeyParts). x.user) a

  test_3 : x3.test ≡ x0.test
  test_3 = ap (λ (x : Keyed KeyParts). x.test) c ∙ (ap (λ (x : Keyed KeyParts). x.test) b ∙ ap (λ (x : Keyed KeyParts). x.test) a)

  importance_4 : x4.importance ≡ x1.importance
  importance_4 = ap (λ (x : Keyed KeyParts). x.importance) d ∙ (ap (λ (x : Keyed KeyParts). x.importance) c ∙ ap (λ (x : Keyed KeyParts). x.importance) b)

  bank_4 : x4.bank ≡ x2.bank
  bank_4 = ap (λ (x : Keyed KeyParts). x.bank) d ∙ ap (λ (x : Keyed KeyParts). x.bank) c

  user_4 : x4.user ≡ x3.user
  user_4 = ap (λ (x : Keyed KeyParts). x.user) d

  pub shares_all : SharesAt x0.importance (index_of keys.Importance v) x1.importance → SharesAt x1.bank (index_of keys.Bank v) x2.bank → SharesAt x2.user (index_of keys.User v) x3.user → SharesAt x3.test (index_of keys.Test v) x4.test
      → SharesAll x0 v x4
  shares_all i j k l keys.Importance = subst (λ y. SharesAt x0.importance (index_of keys.Importance v) y) (sym importance_4) i
  shares_all i j k l keys.Bank = subst (λ y. SharesAt x0.bank (index_of keys.Bank v) y) (sym bank_4) (subst (λ y. SharesAt y (index_of keys.Bank v) x2.bank) bank_1 j)
  shares_all i j k l keys.User = subst (λ y. SharesAt x0.user (index_of keys.User v) y) (sym user_4) (subst (λ y. SharesAt y (index_of keys.User v) x3.user) user_2 k)
  shares_all i j k l keys.Test = subst (λ y. SharesAt y (index_of keys.Test v) x4.test) test_3 l

-- the entries elsewhere stay
pub may_bank : (v : Indices) (x0 x1 : Keyed KeyParts) → x1 ≡ with_key keys.Importance (of_key keys.Importance x1) x0 → MayShare x0 v → MayShareAt x1 v keys.Bank
may_bank v x0 x1 a may = subst (λ (y : KeyParts). IfSome (index_of keys.Bank v) (λ i. IsSome (entry_at y.entries.slots i) × (refs_of (entry_at y.entries.slots i) < 2 ^ 63))) (sym (ap (λ (x : Keyed KeyParts). x.bank) a)) (may keys.Bank)

pub may_user : (v : Indices) (x0 x1 x2 : Keyed KeyParts) → x1 ≡ with_key keys.Importance (of_key keys.Importance x1) x0 → x2 ≡ with_key keys.Bank (of_key keys.Bank x2) x1 → MayShare x0 v → MayShareAt x2 v keys.User
may_user v x0 x1 x2 a b may = subst (λ (y : KeyParts). IfSome (index_of keys.User v) (λ i. IsSome (entry_at y.entries.slots i) × (refs_of (entry_at y.entries.slots i) < 2 ^ 63)))
    (sym (ap (λ (x : Keyed KeyParts). x.user) b ∙ ap (λ (x : Keyed KeyParts). x.user) a)) (may keys.User)

pub may_test : (v : Indices) (x0 x1 x2 x3 : Keyed KeyParts) → x1 ≡ with_key keys.Importance (of_key keys.Importance x1) x0 → x2 ≡ with_key keys.Bank (of_key keys.Bank x2) x1 → x3 ≡ with_key keys.User (of_key keys.User x3) x2
    → MayShare x0 v → MayShareAt x3 v keys.Test
may_test v x0 x1 x2 x3 a b c may = subst (λ (y : KeyParts). IfSome (index_of keys.Test v) (λ i. IsSome (entry_at y.entries.slots i) × (refs_of (entry_at y.entries.slots i) < 2 ^ 63)))
    (sym (ap (λ (x : Keyed KeyParts). x.test) c ∙ (ap (λ (x : Keyed KeyParts). x.test) b ∙ ap (λ (x : Keyed KeyParts). x.test) a))) (may keys.Test)

-- The copy.

-- the entries of a voucher of the parts are there, and their counts are small
pub may_share : (p : Parts) → Reached p → AllApart p.values → (v : Indices) (w : Handles) → IsMap p.values v w → MayShare p.values v
may_share p r apart v w map k = by (index_of k v) (of_key k w) (at_key p.values k v w map)
  where
    by : (i : Option ℕ) (h : Option ℕ) → Optional (IsIndexOf p.values k) i h → IfSome i (λ i. IsSome (entry_at (of_key k p.values).entries.slots i) × (refs_of (entry_at (of_key k p.values).entries.slots i) < 2 ^ 63))
    by None h e = tt
    by (Some i) None e = absurd e
    by (Some i) (Some h) e = entry_of_handle (of_key k p.values).entries.slots i h _ e (λ en q same.
        let z : AreBelow (2 ^ 63) (Some en) = subst (AreBelow (2 ^ 63)) q (refer_counts p k h r (apart k) i e) in
        subst (λ o. IsSome o × (refs_of o < 2 ^ 63)) (sym q) (refl, z.0))

-- what stands behind a copy in the machine
pub record Copies (p : Parts) (m : Machine) (t : ℕ) (call : Call) (v : Indices) (ks : List Key) : Type 0 where
  pub handles : Handles
  pub map : IsMap p.values v handles
  pub known : is_known m handles ≡ true
  pub begins : begin_call p.scenario false (machine_begun m t) t call (store_reply p.scenario m t call) ≡ frames.with_frame (machine_begun m t) t (Some (begins.fresh_frame handles ks))

module _ (p : Parts) (t : ℕ) (r : Reached p) (task : is_task p.scenario t ≡ true) (next : IsNext p t (Some kinds.Begin)) (free : frame_of p.frames t ≡ None)
    (call : Call) (is : nth_call p.scenario t (begun_of p.frames t + 1) ≡ Some call) (v : Indices) (ks : List Key)
    (copies : (m : Machine) → IsState p.scenario (plain_of p) m → Copies p m t call v ks) where
  pub copied_follows : (keyed : Keyed KeyParts) → SharesAll p.values v keyed → (fs2 : List Working) → fs2 ≡ with_frame_of (with_begun_of p.frames t) t (Some (fresh_frame v ks)) → MayFollow kinds.Begin t p (record p { values = keyed; frames = fs2 })
  copied_follows keyed shares fs2 put = may_follow kinds.Begin t p (record p { values = keyed; frames = fs2 }) false (copied (plain_of p) t keyed v ks) refl
      (ap (λ (c : Plain). record c { keyed = keyed }) (opened_is p t r task fs2 (fresh_frame v ks) put))
      (λ m st. let b = begun p t r task next free call is m st in let a = b.at_rest in let c = copies m st in (
        frames.with_frame (machine_begun m t) t (Some (begins.fresh_frame c.handles ks)),
        b.event false ∙ ap Some c.begins,
        b.next,
        copied_stands p.scenario (plain_of p) m t a.positive a.inside a.stands a.own a.task keyed v c.handles ks c.map shares c.known,
      ))

  pub copied_then : (new : Parts) → new ≡ record p { values = new.values; frames = new.frames } → SharesAll p.values v new.values → new.frames ≡ with_frame_of (with_begun_of p.frames t) t (Some (fresh_frame v ks)) → MayFollow kinds.Begin t p new
  copied_then new whole shares put = subst (MayFollow kinds.Begin t p) (sym whole) (copied_follows new.values shares new.frames put)

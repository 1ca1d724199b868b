-- What the names of a task are, as one of them changes.
use Rattle.std.proofs.Common.{◌≡◌, ◌≢◌, ◌≤◌, ◌+◌, ◌-◌, ℕ, List, [], ◌∷◌, ◌++◌, map, nat_lt, not, Option, Some, None, Bool, true, false, cond, ◌==◌, refl, sym, ap, ◌∙◌, subst, arith}
use Rattle.std.proofs.lemmas.Grind.{common_steps}
use Rattle.std.proofs.lemmas.Bool.{ne_eqb}
use Rattle.std.proofs.lemmas.List.{map-append}
use Rattle.std.specs.Bool.{then_some}
use Rattle.std.specs.List.{filter}
use Rattle.std.specs.Option.{option_map, option_to_list}
use Rattle.vch_table.proofs.CallerLemmas.{by_cases}
use Rattle.vch_table.specs.declared.table.Cell.{Cell}
use Rattle.vch_table.specs.Vouchers.{Vouchers}
use Rattle.vch_ports.specs.declared.space.Added.{Added}
use Rattle.vch_ports.specs.declared.space.Named as ports
use Rattle.vch_ports.specs.Names as names
use Rattle.vch_ports.specs.Names.{Names, Adds, adds, AllDiffer, NoneHas, AllReferred, Spaced, by_name, by_slot, given_up, is_other, less, looked, more, name_of, new_name, slot_of}
use Rattle.vch_vouchers.specs.Desks.{lowest, name_with, name_for, given, one_less, one_more, voucher_of, without_name}
use Rattle.vch_vouchers.specs.Held.{slot_gone}
use Rattle.vch_ports.specs.Mailbox.{Mailbox}
use Rattle.vch_vouchers.specs.Slots.{desk_at, name_at, name_slots, times, voucher_at}
use Rattle.vch_vouchers.proofs.Known.{AllLive, IsLive, same_slot}
use Rattle.vch_vouchers.proofs.Times.{first_once, later, test_is, test_true, times_append}

-- Names of slots that do not have a slot or a number.

none_more : (s : ℕ) (ns : List ports.Named) → NoneHas slot_of s ns → map (more s) ns ≡ ns
none_more s [] e = refl
none_more s (n ∷ ns) e = rw (ne_eqb n.slot s e.0, none_more s ns e.1) refl

none_less : (k : ℕ) (ns : List ports.Named) → NoneHas name_of k ns → map (less k) ns ≡ ns
none_less k [] e = refl
none_less k (n ∷ ns) e = rw (ne_eqb n.name k e.0, none_less k ns e.1) refl

none_out : (k : ℕ) (ns : List ports.Named) → NoneHas name_of k ns → filter (is_other k) ns ≡ ns
none_out k [] e = refl
none_out k (n ∷ ns) e = rw (ne_eqb n.name k e.0) (ap (λ r. n ∷ r) (none_out k ns e.1))

slot_other : (s k : ℕ) (ns : List ports.Named) (x : ports.Named) → NoneHas name_of k ns → by_slot ns s ≡ Some x → x.name ≢ k
slot_other s k [] x e f = absurd (cc)
slot_other s k (n ∷ ns) x e f = by (n.slot == s) f (slot_other s k ns x e.1)
  where
    by : (b : Bool) → cond b (Some n) (by_slot ns s) ≡ Some x → (by_slot ns s ≡ Some x → x.name ≢ k) → x.name ≢ k
    by true q next = let z : n ≡ x = cc in subst (λ (u : ports.Named). u.name ≢ k) z e.0
    by false q next = next q

-- Slots of names.

module _ (s : ℕ) where
  times_more : (k : ℕ) (ns : List ports.Named) → times s (name_slots (map (more k) ns)) ≡ times s (name_slots ns)
  times_more k [] = refl
  times_more k (n ∷ ns) = ap (λ i. cond (i == s) 1 0 + times s (name_slots (map (more k) ns))) (by (n.slot == k)) ∙ ap (λ r. cond (n.slot == s) 1 0 + r) (times_more k ns)
    where
      by : (b : Bool) → (cond b (record n { references = n.references + 1 }) n).slot ≡ n.slot
      by true = refl
      by false = refl

  times_less : (k : ℕ) (ns : List ports.Named) → times s (name_slots (map (less k) ns)) ≡ times s (name_slots ns)
  times_less k [] = refl
  times_less k (n ∷ ns) = ap (λ i. cond (i == s) 1 0 + times s (name_slots (map (less k) ns))) (by (n.name == k)) ∙ ap (λ r. cond (n.slot == s) 1 0 + r) (times_less k ns)
    where
      by : (b : Bool) → (cond b (record n { references = n.references - 1 }) n).slot ≡ n.slot
      by true = refl
      by false = refl

  pub times_out : (k : ℕ) (ns : List ports.Named) → AllDiffer name_of ns → times s (name_slots (filter (is_other k) ns)) + times s (option_to_list (looked (by_name ns k))) ≡ times s (name_slots ns)
  times_out k [] d = refl
  times_out k (n ∷ ns) d = by (n.name == k) refl (times_out k ns d.1)
    where
      by : (b : Bool) → (n.name == k) ≡ b → times s (name_slots (filter (is_other k) ns)) + times s (option_to_list (looked (by_name ns k))) ≡ times s (name_slots ns)
          → times s (name_slots (cond (not b) (n ∷ filter (is_other k) ns) (filter (is_other k) ns))) + times s (option_to_list (looked (cond b (Some n) (by_name ns k)))) ≡ cond (n.slot == s) 1 0 + times s (name_slots ns)
      by true e r =
          let k_is : n.name ≡ k = test_true n.name k e in
          let z : filter (is_other k) ns ≡ ns = none_out k ns (subst (λ i. NoneHas name_of i ns) k_is d.0) in
          rw z (omega arith)
      by false e r = omega (arith, r)

  pub times_given_up : (k : ℕ) (ns : List ports.Named) → AllDiffer name_of ns → times s (name_slots (given_up (by_name ns k) k ns)) + times s (option_to_list (slot_gone (by_name ns k))) ≡ times s (name_slots ns)
  times_given_up k ns d = by (by_name ns k) refl
    where
      nothing : (n : ℕ) → n + 0 ≡ n
      nothing n = omega arith

      by : (o : Option ports.Named) → by_name ns k ≡ o → times s (name_slots (given_up o k ns)) + times s (option_to_list (slot_gone o)) ≡ times s (name_slots ns)
      by None e = nothing (times s (name_slots ns))
      by (Some x) e = by_cases (x.references == 1) (λ b. times s (name_slots (cond b (filter (is_other k) ns) (map (less k) ns))) + times s (option_to_list (cond b (Some x.slot) None)) ≡ times s (name_slots ns))
          (λ _. ap (λ o. times s (name_slots (filter (is_other k) ns)) + times s (option_to_list (looked o))) (sym e) ∙ times_out k ns d)
          (λ _. nothing (times s (name_slots (map (less k) ns))) ∙ times_less k ns)

  -- a slot that the task has, or one more
  pub times_added : (old new : Names) (slot : ℕ) (added : Added) → Adds old slot added new → times s (name_slots new.names) + times s (option_to_list (then_some added.was_there slot)) ≡ times s (name_slots old.names) + times s (slot ∷ [])
  times_added old new slot added a = by (by_slot old.names slot) a
    where
      by : (o : Option ports.Named) → adds o old slot added new → times s (name_slots new.names) + times s (option_to_list (then_some added.was_there slot)) ≡ times s (name_slots old.names) + times s (slot ∷ [])
      by (Some x) e =
          let was : added.was_there ≡ true = ap (λ (i : Added). i.was_there) e.0 in
          rw (was, e.1, times_more slot old.names) refl
      by None e =
          let was : added.was_there ≡ false = ap (λ (i : Added). i.was_there) e.0 in
          let split : name_slots (old.names ++ new_name old.next slot ∷ []) ≡ name_slots old.names ++ slot ∷ [] = map-append (λ (n : ports.Named). n.slot) old.names (new_name old.next slot ∷ []) in
          rw (was, e.1, split) (let t = times_append s (name_slots old.names) (slot ∷ []) in omega (arith, t))

-- Pictures of names.

module _ (table : List (Option Cell)) where
  pub voucher_found : (k : ℕ) (ns : List ports.Named) → voucher_of (map (name_at table) ns) k ≡ option_map (voucher_at table) (looked (by_name ns k))
  voucher_found k [] = refl
  voucher_found k (n ∷ ns) = by_cases (n.name == k) (λ b. cond b (Some (voucher_at table n.slot)) (voucher_of (map (name_at table) ns) k) ≡ option_map (voucher_at table) (looked (cond b (Some n) (by_name ns k))))
      (λ _. refl) (λ _. voucher_found k ns)

  pub lowest_is : (ns : List ports.Named) → lowest (map (name_at table) ns) ≡ names.lowest ns
  lowest_is [] = refl
  lowest_is (n ∷ ns) = ap (λ o. Some (names.lower n.name o)) (lowest_is ns)

  pub without_is : (k : ℕ) (ns : List ports.Named) → AllDiffer name_of ns → map (name_at table) (filter (is_other k) ns) ≡ without_name (map (name_at table) ns) k
  without_is k [] d = refl
  without_is k (n ∷ ns) d = by (n.name == k) refl (without_is k ns d.1)
    where
      by : (b : Bool) → (n.name == k) ≡ b → map (name_at table) (filter (is_other k) ns) ≡ without_name (map (name_at table) ns) k
          → map (name_at table) (cond (not b) (n ∷ filter (is_other k) ns) (filter (is_other k) ns)) ≡ cond b (map (name_at table) ns) (name_at table n ∷ without_name (map (name_at table) ns) k)
      by true e r = ap (map (name_at table)) (none_out k ns (subst (λ i. NoneHas name_of i ns) (test_true n.name k e) d.0))
      by false e r = ap (λ t. name_at table n ∷ t) r

  pub less_is : (k : ℕ) (ns : List ports.Named) → AllDiffer name_of ns → AllReferred ns → map (name_at table) (given_up (by_name ns k) k ns) ≡ one_less (map (name_at table) ns) k
  less_is k ns d r = by (by_name ns k) refl
    where
      none : (ns : List ports.Named) → by_name ns k ≡ None → map (name_at table) ns ≡ one_less (map (name_at table) ns) k
      none [] e = refl
      none (n ∷ ns) e = by_cases (n.name == k) (λ b. cond b (Some n) (by_name ns k) ≡ None → map (name_at table) (n ∷ ns) ≡ cond b (cond (nat_lt 1 n.references) (record { name = n.name; voucher = voucher_at table n.slot; refs = n.references - 1 } ∷ map (name_at table) ns) (map (name_at table) ns)) (name_at table n ∷ one_less (map (name_at table) ns) k))
          (λ _ q. absurd (cc)) (λ _ q. ap (λ t. name_at table n ∷ t) (none ns q)) e

      some : (ns : List ports.Named) (x : ports.Named) → AllDiffer name_of ns → AllReferred ns → by_name ns k ≡ Some x
          → map (name_at table) (cond (x.references == 1) (filter (is_other k) ns) (map (less k) ns)) ≡ one_less (map (name_at table) ns) k
      some [] x d r e = absurd (cc)
      some (n ∷ ns) x d r e = by_cases (n.name == k) (λ b. (n.name == k) ≡ b → cond b (Some n) (by_name ns k) ≡ Some x
          → map (name_at table) (cond (x.references == 1) (cond (not b) (n ∷ filter (is_other k) ns) (filter (is_other k) ns)) (cond b (record n { references = n.references - 1 }) n ∷ map (less k) ns)) ≡ cond b (cond (nat_lt 1 n.references) (record { name = n.name; voucher = voucher_at table n.slot; refs = n.references - 1 } ∷ map (name_at table) ns) (map (name_at table) ns)) (name_at table n ∷ one_less (map (name_at table) ns) k))
          (λ _ t q. here t (cc)) (λ _ t q. there (some ns x d.1 r.1 q)) refl e
        where
          last : (m : ℕ) → 1 ≤ m → (m == 1) ≡ not (nat_lt 1 m)
          last m l = grind (arith, common_steps)

          here : (n.name == k) ≡ true → n ≡ x → map (name_at table) (cond (x.references == 1) (filter (is_other k) ns) (record n { references = n.references - 1 } ∷ map (less k) ns)) ≡ cond (nat_lt 1 n.references) (record { name = n.name; voucher = voucher_at table n.slot; refs = n.references - 1 } ∷ map (name_at table) ns) (map (name_at table) ns)
          here t z =
              let no : NoneHas name_of k ns = subst (λ i. NoneHas name_of i ns) (test_true n.name k t) d.0 in
              subst (λ (u : ports.Named). map (name_at table) (cond (u.references == 1) (filter (is_other k) ns) (record n { references = n.references - 1 } ∷ map (less k) ns)) ≡ cond (nat_lt 1 n.references) (record { name = n.name; voucher = voucher_at table n.slot; refs = n.references - 1 } ∷ map (name_at table) ns) (map (name_at table) ns)) z
              (rw (last n.references r.0, none_out k ns no, none_less k ns no) (cases (nat_lt 1 n.references)))
            where
              cases : (b : Bool) → map (name_at table) (cond (not b) ns (record n { references = n.references - 1 } ∷ ns)) ≡ cond b (record { name = n.name; voucher = voucher_at table n.slot; refs = n.references - 1 } ∷ map (name_at table) ns) (map (name_at table) ns)
              cases true = refl
              cases false = refl

          there : map (name_at table) (cond (x.references == 1) (filter (is_other k) ns) (map (less k) ns)) ≡ one_less (map (name_at table) ns) k
              → map (name_at table) (cond (x.references == 1) (n ∷ filter (is_other k) ns) (n ∷ map (less k) ns)) ≡ name_at table n ∷ one_less (map (name_at table) ns) k
          there q = cases (x.references == 1) q
            where
              cases : (b : Bool) → map (name_at table) (cond b (filter (is_other k) ns) (map (less k) ns)) ≡ one_less (map (name_at table) ns) k
                  → map (name_at table) (cond b (n ∷ filter (is_other k) ns) (n ∷ map (less k) ns)) ≡ name_at table n ∷ one_less (map (name_at table) ns) k
              cases true q = ap (λ t. name_at table n ∷ t) q
              cases false q = ap (λ t. name_at table n ∷ t) q

      by : (o : Option ports.Named) → by_name ns k ≡ o → map (name_at table) (given_up o k ns) ≡ one_less (map (name_at table) ns) k
      by None e = none ns e
      by (Some x) e = some ns x d r e

  more_is : (s : ℕ) (ns : List ports.Named) (x : ports.Named) → AllDiffer name_of ns → AllDiffer slot_of ns → by_slot ns s ≡ Some x → map (name_at table) (map (more s) ns) ≡ one_more (map (name_at table) ns) x.name
  more_is s [] x a b e = absurd (cc)
  more_is s (n ∷ ns) x a b e = by (n.slot == s) refl e (more_is s ns x a.1 b.1)
    where
      by : (t : Bool) → (n.slot == s) ≡ t → cond t (Some n) (by_slot ns s) ≡ Some x → (by_slot ns s ≡ Some x → map (name_at table) (map (more s) ns) ≡ one_more (map (name_at table) ns) x.name)
          → map (name_at table) (cond t (record n { references = n.references + 1 }) n ∷ map (more s) ns) ≡ cond (n.name == x.name) (record { name = n.name; voucher = voucher_at table n.slot; refs = n.references + 1 } ∷ map (name_at table) ns) (name_at table n ∷ one_more (map (name_at table) ns) x.name)
      by true q f next =
          let z : n ≡ x = cc in
          let same : n.name ≡ x.name = ap name_of z in
          rw (test_is n.name x.name same, none_more s ns (subst (λ i. NoneHas slot_of i ns) (test_true n.slot s q) b.0)) refl
      by false q f next = rw (ne_eqb n.name x.name (λ i. slot_other s n.name ns x a.0 f (sym i))) (ap (λ t. name_at table n ∷ t) (next f))

  module _ (vouchers : Vouchers table) (s : ℕ) (live : IsLive table vouchers s) where
    name_with_is : (ns : List ports.Named) → AllLive table vouchers (name_slots ns) → name_with (map (name_at table) ns) (voucher_at table s) ≡ option_map name_of (by_slot ns s)
    name_with_is [] all = refl
    name_with_is (n ∷ ns) all = rw (same_slot table vouchers n.slot s (all n.slot (first_once n.slot (name_slots ns))) live, name_with_is ns (λ r l. all r (later r n.slot (name_slots ns) l))) (by (n.slot == s))
      where
        by : (b : Bool) → cond b (Some n.name) (option_map name_of (by_slot ns s)) ≡ option_map name_of (cond b (Some n) (by_slot ns s))
        by true = refl
        by false = refl

    -- a voucher is given by its slot
    pub record IsGiven (old new : Names) (mail : Mailbox) (added : Added) : Type 0 where
      pub desk : desk_at table (record { space = new; mail = mail }) ≡ given (desk_at table (record { space = old; mail = mail })) (voucher_at table s)
      pub name : added.name ≡ name_for (desk_at table (record { space = old; mail = mail })) (name_with (map (name_at table) old.names) (voucher_at table s))

    pub is_given : (old new : Names) (mail : Mailbox) (added : Added) → Spaced old.names old.next → AllLive table vouchers (name_slots old.names) → Adds old s added new → IsGiven old new mail added
    is_given old new mail added spaced all a = by (by_slot old.names s) refl a
      where
        found : name_with (map (name_at table) old.names) (voucher_at table s) ≡ option_map name_of (by_slot old.names s)
        found = name_with_is old.names all

        by : (o : Option ports.Named) → by_slot old.names s ≡ o → adds o old s added new → IsGiven old new mail added
        by (Some x) q e =
            let f : name_with (map (name_at table) old.names) (voucher_at table s) ≡ Some x.name = found ∙ ap (option_map name_of) q in
            record {
              desk = rw (f, e.1, e.2, more_is s old.names x spaced.names_differ spaced.slots_differ q) refl;
              name = rw f (ap (λ (i : Added). i.name) e.0);
            }
        by None q e =
            let f : name_with (map (name_at table) old.names) (voucher_at table s) ≡ None = found ∙ ap (option_map name_of) q in
            record {
              desk = rw (f, e.1, e.2, map-append (name_at table) old.names (new_name old.next s ∷ [])) refl;
              name = rw f (ap (λ (i : Added). i.name) e.0);
            }

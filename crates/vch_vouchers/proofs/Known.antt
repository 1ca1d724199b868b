-- Which vouchers are known, and how many different ones there are, by the slots.
use Rattle.std.proofs.Common.{◌≡◌, ◌≤◌, ◌+◌, ℕ, List, [], ◌∷◌, map, nat_lt, ◌||◌, Option, Some, None, Bool, true, false, cond, ◌==◌, refl, sym, ap, ◌∙◌, subst, arith}
use Rattle.std.proofs.lemmas.Grind.{common_steps}
use Rattle.std.specs.List.{flat_map}
use Rattle.std.specs.Option.{option_map, option_to_list, IfSome}
use Rattle.vch_base.specs.Slots.{slot_at, Writes}
use Rattle.vch_table.proofs.CallerLemmas.{by_cases, decides}
use Rattle.vch_table.specs.Index.{indices_eq}
use Rattle.vch_table.specs.declared.table.Cell.{Cell}
use Rattle.vch_table.specs.Vouchers.{Vouchers, less, given_back}
use Rattle.vch_vouchers.specs.declared.desks.SlotDesk.{SlotDesk}
use Rattle.vch_vouchers.specs.Desks.{Voucher, is_among, is_known, orphaned}
use Rattle.vch_vouchers.specs.Slots.{Balanced, Releases, desks_at, referred, slots_at, times, voucher_at}
use Rattle.vch_vouchers.proofs.Pictures.{all_are, desks_same, voucher_is}
use Rattle.vch_vouchers.proofs.Steps.{is_released, live_of, referred_live}
use Rattle.vch_vouchers.proofs.Times.{first_once, later, test_is, test_true}

module _ (table : List (Option Cell)) (vouchers : Vouchers table) where
  abbrev pub IsLive : ℕ → Type 0
  IsLive s = (c : Cell) × (slot_at table s ≡ Some c)

  abbrev pub AllLive : List ℕ → Type 0
  AllLive xs = (s : ℕ) → 1 ≤ times s xs → IsLive s

  pub one_slot : (a b : ℕ) → IsLive a → IsLive b → voucher_at table a ≡ voucher_at table b → a ≡ b
  one_slot a b x y equal = vouchers.apart a b x.0 y.0 x.1 y.1 (sym (voucher_is table a x.0 x.1) ∙ equal ∙ voucher_is table b y.0 y.1)

  -- live slots have one voucher exactly where they are one
  pub same_slot : (a b : ℕ) → IsLive a → IsLive b → indices_eq (voucher_at table a) (voucher_at table b) ≡ (a == b)
  same_slot a b x y = by_cases (a == b) (λ t. indices_eq (voucher_at table a) (voucher_at table b) ≡ t)
      (λ e. (decides (voucher_at table a) (voucher_at table b)).1 (ap (voucher_at table) (test_true a b e)))
      (λ e. by (indices_eq (voucher_at table a) (voucher_at table b)) refl e)
    where
      by : (t : Bool) → indices_eq (voucher_at table a) (voucher_at table b) ≡ t → (a == b) ≡ false → t ≡ false
      by false k e = refl
      by true k e =
          let equal : voucher_at table a ≡ voucher_at table b = (decides (voucher_at table a) (voucher_at table b)).0 k in
          let one : a ≡ b = one_slot a b x y equal in
          let hit : (a == b) ≡ true = test_is a b one in
          cc

  either : (b : Bool) (n : ℕ) → b || nat_lt 0 n ≡ nat_lt 0 (cond b 1 0 + n)
  either true n = grind (arith, common_steps)
  either false n = grind (arith, common_steps)

  pub among_is : (s : ℕ) (xs : List ℕ) → IsLive s → AllLive xs → is_among (voucher_at table s) (map (voucher_at table) xs) ≡ nat_lt 0 (times s xs)
  among_is s [] y all = refl
  among_is s (x ∷ xs) y all =
      let a = same_slot x s (all x (first_once x xs)) y in
      let b = among_is s xs y (λ r l. all r (later r x xs l)) in
      rw (a, b) (either (x == s) (times s xs))

  module _ (ds : List SlotDesk) (hand : List ℕ) (balanced : Balanced table ds hand) where
    all_live : AllLive (flat_map slots_at ds)
    unfolding referred
    all_live s l = referred_live table ds hand balanced s l

    -- a live slot is referred to exactly where its voucher is known
    pub known_is : (s : ℕ) → IsLive s → is_known (desks_at table ds) (voucher_at table s) ≡ nat_lt 0 (referred s ds)
    unfolding referred
    known_is s y = ap (is_among (voucher_at table s)) (all_are table ds) ∙ among_is s (flat_map slots_at ds) y all_live

-- A reference, or none, was given back.

pub record IsSettled (old new : List (Option Cell)) (ds : List SlotDesk) (slot : Option ℕ) (answer : Option Voucher) : Type 0 where
  pub balanced : Balanced new ds []
  pub same : desks_at new ds ≡ desks_at old ds
  pub orphan : answer ≡ orphaned (desks_at new ds) (option_map (voucher_at old) slot)

pub settled : (old new : List (Option Cell)) (ds : List SlotDesk) (slot : Option ℕ) (answer : Option Voucher) → Vouchers old → Balanced old ds (option_to_list slot) → Releases slot old answer new → IsSettled old new ds slot answer
settled old new ds None answer v b r = record {
  balanced = subst (λ t. Balanced t ds []) (sym r.1) b;
  same = ap (λ t. desks_at t ds) r.1;
  orphan = r.0;
}
settled old new ds (Some s) answer v b r =
    let live : IsLive old v s = live_of old s (let e = b.counts s in omega (arith, e, first_once s [])) in
    by live.0 live.1 (subst (λ o. IfSome o (λ c. (answer ≡ given_back c) × Writes old new s (less c))) live.1 r)
  where
    by : (c : Cell) → slot_at old s ≡ Some c → (answer ≡ given_back c) × Writes old new s (less c) → IsSettled old new ds (Some s) answer
    by c e w =
        let x = is_released old new ds s answer v b c e w.0 w.1 in
        let same : desks_at new ds ≡ desks_at old ds = desks_same old new ds x.same in
        record {
          balanced = x.balanced;
          same = same;
          orphan = x.told ∙ ap (λ t. cond t None (Some (voucher_at old s))) (sym (known_is old v ds (s ∷ []) b s (c, e))) ∙ ap (λ d. cond (is_known d (voucher_at old s)) None (Some (voucher_at old s))) (sym same);
        }

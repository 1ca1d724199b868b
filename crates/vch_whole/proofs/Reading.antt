-- What a core tells of the state that it stands for: its totals, and how many vouchers and values live.
use Rattle.std.proofs.Common.{◌≡◌, ℕ, ◌^◌, ◌==◌, cond, ◌<◌, ◌≤◌, true, List, [], ◌∷◌, refl, arith, sym, ap, ◌∙◌, length, map}
use Rattle.std.proofs.lemmas.Grind.{common_steps}
use Rattle.vch_base.specs.Keyed.{of_key}
use Rattle.vch_bank.specs.Bank.{ledger_of}
use Rattle.vch_importance.specs.Assertions.{held_by, out_from}
use Rattle.vch_model.specs.declared.entry.Reply.TheVariants as replies
use Rattle.vch_model.specs.declared.total.Total.{Total}
use Rattle.vch_model.specs.After.{store_of}
use Rattle.vch_model.specs.Lines.{is_task}
use Rattle.vch_model.specs.Text.{vouchers_in, values_in}
use Rattle.vch_model.specs.Totals.{ledger, held, out}
use Rattle.vch_machine.specs.State.{Machine, seen}
use Rattle.vch_values.specs.Parts.{live_in}
use Rattle.vch_values.proofs.CallerLemmas.{few_live}
use Rattle.vch_vouchers.specs.Desks.{Desk, different}
use Rattle.vch_vouchers.specs.Desks as desks
use Rattle.vch_parts.specs.declared.frames.Working.{Working}
use Rattle.vch_parts.specs.declared.parts.Parts.{Parts}
use Rattle.vch_parts.specs.Reached.{Reached, Stands, plain_of, beside, parts_in}
use Rattle.vch_parts.proofs.CallerLemmas.{numbers_of, even_of}
use Rattle.vch_replies.specs.Begins.{Begins}
use Rattle.vch_replies.specs.Known.{AreApart, all_vouchers, desk_in}
use Rattle.vch_replies.proofs.CallerLemmas.{ledger_reply, assertions_reply, live_reply}
use Rattle.vch_whole.proofs.Standing.{from_state, inside}
use Rattle.vch_legal.proofs.CallerLemmas.{task_of}

begins_at : (p : Parts) (m : Machine) (t : ℕ) → Stands p m → is_task p.scenario t ≡ true → Begins p.scenario (plain_of p) m t
begins_at p m t s task = record { stands = (from_state p m s).0; ties = (from_state p m s).1; task = task }

-- The totals of a task.

ledgers_are : (a b : ℕ) → replies.Ledger a ≡ replies.Ledger b → b ≡ a
ledgers_are a b e = cc

assertions_are : (a b c d : ℕ) → replies.Assertions a b ≡ replies.Assertions c d → (c ≡ a) × (d ≡ b)
assertions_are a b c d e = (cc, cc)

live_are : (a b c d : ℕ) → replies.Live a b ≡ replies.Live c d → (c ≡ a) × (d ≡ b)
live_are a b c d e = (cc, cc)

three : (a b c d e f : ℕ) → a ≡ d → b ≡ e → c ≡ f → ◌≡◌ {A = Total} (record { ledger = a; held = b; out = c }) (record { ledger = d; held = e; out = f })
three a b c d e f x y z = rw (x, y, z) refl

pub total_is : (p : Parts) (t x y z : ℕ) → is_task p.scenario t ≡ true → x ≡ ledger_of p.values.bank.kept.ledgers t → y ≡ held_by p.values.importance.kept t → z ≡ out_from p.values.importance.kept t
    → (m : Machine) → Stands p m → ◌≡◌ {A = Total} (record { ledger = x; held = y; out = z }) (record { ledger = ledger p.scenario m.past t; held = held p.scenario m.past t; out = out p.scenario m.past t })
total_is p t x y z task a b c m s =
    let g : Begins p.scenario (plain_of p) m t = begins_at p m t s task in
    let l = ledgers_are _ _ (ledger_reply p.scenario (plain_of p) m t g) in
    let h = assertions_are _ _ _ _ (assertions_reply p.scenario (plain_of p) m t g) in
    three _ _ _ _ _ _ (a ∙ l) (b ∙ h.0) (c ∙ h.1)

-- What lives.

beside_vouchers : (ds : List Desk) (fs : List Working) → length ds ≡ length fs → map desk_in (beside ds fs) ≡ ds
beside_vouchers [] [] e = refl
beside_vouchers [] (x ∷ fs) e = absurd (omega (arith, e))
beside_vouchers (d ∷ ds) [] e = absurd (omega (arith, e))
beside_vouchers (d ∷ ds) (x ∷ fs) e = ap (λ xs. d ∷ xs) (beside_vouchers ds fs (omega (arith, e)))

desks_are : (p : Parts) (m : Machine) → Stands p m → 1 ≤ length p.scenario.flags → map desk_in (parts_in p.vouchers p.frames) ≡ p.vouchers
desks_are p m s some =
    let n = inside p m 1 s (task_of p.scenario 1 (omega arith) some) in
    let e : length p.vouchers ≡ length p.frames = even_of p.vouchers p.frames 0 (omega (arith, n.1)) in
    ap (map desk_in) (parts_even p.vouchers p.frames e) ∙ beside_vouchers p.vouchers p.frames e
  where
    same_number : (a b : ℕ) → a ≡ b → (a == b) ≡ true
    same_number a b h = grind (arith, common_steps)

    parts_even : (ds : List Desk) (fs : List Working) → length ds ≡ length fs → parts_in ds fs ≡ beside ds fs
    parts_even ds fs e = ap (λ b. cond b (beside ds fs) []) (same_number (length ds) (length fs) e)

module _ (p : Parts) (m : Machine) (s : Stands p m) (some : 1 ≤ length p.scenario.flags) (apart : AreApart p.values) where
  shown : (different (all_vouchers (plain_of p).tasks) ≡ vouchers_in (seen m)) × (live_in p.values ≡ values_in (seen m))
  shown = live_are _ _ _ _ (live_reply p.scenario (plain_of p) m 1 (begins_at p m 1 s (task_of p.scenario 1 (omega arith) some)) apart)

  same : seen m ≡ store_of p.scenario m.past
  same = (from_state p m s).1.same_store

  vouchers_shown : different (desks.all_vouchers p.vouchers) ≡ vouchers_in (store_of p.scenario m.past)
  vouchers_shown = ap (λ ds. different (desks.all_vouchers ds)) (sym (desks_are p m s some)) ∙ (shown.0 ∙ ap vouchers_in same)

  values_shown : live_in p.values ≡ values_in (store_of p.scenario m.past)
  values_shown = shown.1 ∙ ap values_in same

pub vouchers_are : (p : Parts) (n : ℕ) → 1 ≤ length p.scenario.flags → AreApart p.values → n ≡ different (desks.all_vouchers p.vouchers) → (m : Machine) → Stands p m → n ≡ vouchers_in (store_of p.scenario m.past)
vouchers_are p n some apart e m s = e ∙ vouchers_shown p m s some apart

pub values_are : (p : Parts) (n : ℕ) → 1 ≤ length p.scenario.flags → AreApart p.values → n ≡ live_in p.values → (m : Machine) → Stands p m → n ≡ values_in (store_of p.scenario m.past)
values_are p n some apart e m s = e ∙ values_shown p m s some apart

-- no more values live than there are numbers
pub live_few : (p : Parts) → Reached p → live_in p.values < 2 ^ 64
live_few p r = numbers_of p _ r (λ m s ties n. few_live p.values (λ k. few (length (of_key k p.values).kept.slots) (of_key k m.pools).used (s.keyed k).used (n.used k)))
  where
    few : (a b : ℕ) → a ≡ b → b ≤ 1342177281 → a ≤ 4294967295
    few a b e l = omega arith

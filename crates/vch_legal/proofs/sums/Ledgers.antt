-- The accepted charges of every legal history add up to all ledgers and all that is due.
use Rattle.std.proofs.Common.{◌≡◌, ℕ, ◌+◌, List, [], ◌∷◌, refl, arith, sym, ap, ◌∙◌, length}
use Rattle.std.specs.List.{sum_by}
use Rattle.vch_base.specs.declared.value.Value.{Value}
use Rattle.vch_base.specs.declared.value.Value.TheVariants as values
use Rattle.vch_model.specs.declared.entry.Entry.{Entry}
use Rattle.vch_model.specs.declared.entry.Entry.TheVariants as entries
use Rattle.vch_model.specs.declared.lists.Scenario.{Scenario}
use Rattle.vch_model.specs.Store.{Store, Message, Alive, member}
use Rattle.vch_model.specs.After.{store_of, lost}
use Rattle.vch_model.specs.Totals.{is_done, ledger}
use Rattle.vch_model.specs.Legal.{LegalPast, CanFollow, find_made}
use Rattle.vch_legal.specs.Conserved.{each_task, accepted, account_due, dues}
use Rattle.vch_legal.proofs.store.StoreLegal.{answered_line, legal_store}
use Rattle.vch_legal.proofs.store.StoreSteps.{StoreFits}
use Rattle.vch_legal.proofs.sums.Conservation.{each_zero, live_same}
use Rattle.vch_legal.proofs.sums.EntrySums.{Sum, call_sum, made_sum}
use Rattle.vch_legal.proofs.sums.ReleasedSums.{released_sum}

-- an entry that makes and releases nothing, and is no call
abbrev IsPlain : Entry → Type 0
IsPlain e = (sc : Scenario) (past : List Entry) (x : Value) → account_due sc past x ≡ account_due sc (e ∷ past) x

phase_due : IsPlain entries.Phase
phase_due sc past (values.Account a b) = refl
phase_due sc past (values.User bytes) = refl
phase_due sc past (values.Chain list) = refl
phase_due sc past values.Default = refl
phase_due sc past (values.Task t) = refl

gone_due : (t name : ℕ) → IsPlain (entries.Gone t name)
gone_due t name sc past (values.Account a b) = refl
gone_due t name sc past (values.User bytes) = refl
gone_due t name sc past (values.Chain list) = refl
gone_due t name sc past values.Default = refl
gone_due t name sc past (values.Task u) = refl

lost_due : (t : ℕ) → IsPlain (entries.Lost t)
lost_due t sc past (values.Account a b) = refl
lost_due t sc past (values.User bytes) = refl
lost_due t sc past (values.Chain list) = refl
lost_due t sc past values.Default = refl
lost_due t sc past (values.Task u) = refl

plain_dues : (sc : Scenario) (past : List Entry) (e : Entry) → StoreFits sc (store_of sc past) → IsPlain e
    → (live : List Alive) → live ≡ (store_of sc past).live
    → sum_by (λ (l : Alive). account_due sc past l.value) (store_of sc past).live
    ≡ sum_by (λ (l : Alive). account_due sc (e ∷ past) l.value) live
plain_dues sc past e fits plain live same =
    live_same sc (λ (y : Alive). account_due sc past y.value) (λ (y : Alive). account_due sc (e ∷ past) y.value)
    (store_of sc past).live fits.good (λ y g. plain sc past y.value)
    ∙ ap (λ (xs : List Alive). sum_by (λ (l : Alive). account_due sc (e ∷ past) l.value) xs) (sym same)

lost_live : (s : Store) (t : ℕ) (queue : List Message) → (lost s t queue).live ≡ s.live
lost_live s t [] = refl
lost_live s t (q ∷ queue) = refl

entry_sum : (sc : Scenario) (past : List Entry) (entry : Entry) → StoreFits sc (store_of sc past)
    → CanFollow sc past (store_of sc past) entry → Sum sc past → Sum sc (entry ∷ past)
entry_sum sc past (entries.Call t n word reply) fits a h = call_sum sc past t n word reply
    (is_done reply) refl fits
    (answered_line sc past t n (store_of sc past) word reply a.0 a.1) h
entry_sum sc past (entries.Made k x) fits a h = made_sum sc past k x fits a.0 a.2 h
entry_sum sc past (entries.Released e) fits a h = released_sum sc past e
    (find_made (store_of sc past).live e) refl a fits h
entry_sum sc past (entries.Gone t name) fits a h = h ∙ ap (λ n. each_task (ledger sc past) (length sc.flags) + n)
    (plain_dues sc past (entries.Gone t name) fits (gone_due t name) (store_of sc past).live refl)
entry_sum sc past (entries.Lost t) fits a h = h ∙ ap (λ n. each_task (ledger sc past) (length sc.flags) + n)
    (plain_dues sc past (entries.Lost t) fits (lost_due t) _
    (lost_live (store_of sc past) t (member (store_of sc past) t).queue))
entry_sum sc past entries.Phase fits a h = h ∙ ap (λ n. each_task (ledger sc past) (length sc.flags) + n)
    (plain_dues sc past entries.Phase fits phase_due (store_of sc past).live refl)

-- the accepted charges are in ledgers, or due
pub charges_are_kept : (sc : Scenario) (past : List Entry) → LegalPast sc past
    → accepted sc past ≡ each_task (ledger sc past) (length sc.flags) + dues sc past
charges_are_kept sc [] h = none (length sc.flags)
  where
    none : (n : ℕ) → 0 ≡ each_task (λ t. 0) n + 0
    none n = let i : each_task (λ t. 0) n ≡ 0 = each_zero n in omega arith
charges_are_kept sc (entry ∷ past) h = entry_sum sc past entry (legal_store sc past h.0) h.1
    (charges_are_kept sc past h.0)

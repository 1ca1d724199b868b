-- The books after an accepted change of an external count, and after an accepted charge.
use Rattle.std.proofs.Common.{◌≡◌, ℕ, Bool, List, [], ◌∷◌, refl, true, false, ap, sym, ◌∙◌, subst, length, Some, None, Option, inl, inr, cond}
use Rattle.std.specs.Prelude.{◌⊎◌, ◌==◌, ◌≤◌, ◌<◌}
use Rattle.std.proofs.Common.{arith}
use Rattle.vch_base.specs.Tasks.{at_task}
use Rattle.vch_books.specs.Desks.{empty_desk}
use Rattle.vch_base.specs.declared.key.Key.{Key}
use Rattle.vch_base.specs.declared.key.Key.TheVariants as keys
use Rattle.vch_base.specs.declared.value.Value.TheVariants as values
use Rattle.vch_base.specs.Values.{is_default}
use Rattle.vch_model.specs.declared.call.Call.{Call}
use Rattle.vch_model.specs.declared.call.Call.TheVariants as calls
use Rattle.vch_model.specs.declared.call.Line.{Line}
use Rattle.vch_model.specs.declared.entry.Entry.{Entry}
use Rattle.vch_model.specs.declared.entry.Reply.TheVariants as replies
use Rattle.vch_model.specs.declared.lists.Scenario.{Scenario}
use Rattle.vch_model.specs.Store.{Store}
use Rattle.vch_model.specs.After.{store_after_call, store_after_line}
use Rattle.vch_model.specs.Lines.{line_at}
use Rattle.vch_model.specs.Totals.{named_voucher, with_made}
use Rattle.vch_model.specs.Voucher.{value_in}
use Rattle.vch_machine.specs.Next.{call_in, nth_call}
use Rattle.vch_legal.proofs.CallerLemmas.{extern_done, charge_done, IsCharge}
use Rattle.vch_sums.specs.Summed.{Summed, IsAt, FollowsCount, FollowsCharge}
use Rattle.vch_books.specs.Numbered.{IsAmong, StandsAt, numbered_value, live_of}
use Rattle.vch_books.specs.Audits.{Audit, past_at, store_at, advanced, Accepts}
use Rattle.vch_books.specs.Kept.{Lists, Keeps, IsOneOf}
use Rattle.vch_books.proofs.Values.{number_eq, eq_refl}
use Rattle.vch_books.proofs.Alike.{one_of, default_is}
use Rattle.vch_books.proofs.Keeping.{live_kept, few_kept, task_within}
use Rattle.vch_books.proofs.Effects.{goes_same}
use Rattle.vch_books.proofs.Advancing.{begun_one, keeps_answer, answer_task}

made_is : (h : List Entry) (live : List ℕ) (e : ℕ) → IsOneOf live e → with_made (live_of h live) e ≡ Some (numbered_value h e)
made_is h [] e p = absurd p
made_is h (d ∷ live) e p = by (d == e) refl p (λ q. made_is h live e q)
  where
    by : (b : Bool) → (d == e) ≡ b → (d ≡ e) ⊎ IsOneOf live e → (IsOneOf live e → with_made (live_of h live) e ≡ Some (numbered_value h e))
        → cond b (Some (numbered_value h d)) (with_made (live_of h live) e) ≡ Some (numbered_value h e)
    by true q p f = ap (λ x. Some (numbered_value h x)) (number_eq d e q)
    by false q (inl p) f = no (subst (λ x. (d == x) ≡ false) (sym p) q)
      where
        no : (d == d) ≡ false → (with_made (live_of h live) e) ≡ Some (numbered_value h e)
        no r = let z : true ≡ false = sym (eq_refl d) ∙ r in absurd (cc)
    by false q (inr p) f = f p

-- a number that stands is that of a live value, but for Default
pub stands_made : (a : Audit) (l : Lists) (k : Key) (e : ℕ) → Keeps a l → StandsAt a.history (store_at a).live k (Some e) → is_default (numbered_value a.history e) ≡ false
    → with_made (store_at a).live e ≡ Some (numbered_value a.history e)
stands_made a l k e keeps (inl z) plain = let t : true ≡ false = sym (ap is_default (default_is a.history e z)) ∙ plain in absurd (cc)
stands_made a l k e keeps (inr p) plain =
    let here : with_made (live_of a.history l.live) e ≡ Some (numbered_value a.history e) = made_is a.history l.live e (one_of a.history l.live e (subst (λ ls. IsAmong ls e) (live_kept a l keeps) p.0)) in
    ap (λ ls. with_made ls e) (live_kept a l keeps) ∙ here

some_eq : {A : Type 0} (a b : A) → Some a ≡ Some b → a ≡ b
some_eq a b e = cc

-- a call that changes no name and no queue
same_store : (sc : Scenario) (s : Store) (t n : ℕ) (call : Call) → store_after_call sc s t call ≡ s → nth_call sc t n ≡ Some call → store_after_line sc s t (line_at sc t n) ≡ s
same_store sc s t n call same e = by (line_at sc t n) e
  where
    by : (o : Option (ℕ × Line)) → call_in o ≡ Some call → store_after_line sc s t o ≡ s
    by None f = refl
    by (Some l) f = subst (λ c. store_after_call sc s t c ≡ s) (sym (some_eq l.1.call call f)) same

pub keeps_counted : (a : Audit) (l : Lists) (sums : Summed) (t name e : ℕ) (adding : Bool) (n : ℕ) → Keeps a l → Accepts a t (calls.Extern name adding n)
    → value_in keys.Importance (named_voucher (store_at a) t name) ≡ Some (numbered_value a.history e) → StandsAt a.history (store_at a).live keys.Importance (Some e)
    → FollowsCount e adding n l.sums sums → Keeps (advanced a) (record l { tasks = begun_one l.tasks t; sums = sums })
keeps_counted a l sums t name e adding n k acc named good follows =
    let x = extern_done a.scenario (past_at a) t acc.number acc.word name n adding acc.line (k.legal, acc.next.follows) in
    let is : numbered_value a.history e ≡ values.Chain x.list = some_eq (numbered_value a.history e) (values.Chain x.list) (sym named ∙ x.there) in
    let at : IsAt a.scenario (past_at a) keys.Importance t name e = record { value = numbered_value a.history e; named = named; there = stands_made a l keys.Importance e k good (ap is_default is) } in
    keeps_answer a l l.tasks sums t acc.number acc.word replies.Done k (goes_same a.history l.live l.tasks) acc.next
    (same_store a.scenario (store_at a) t acc.number (calls.Extern name adding n) refl acc.line ∙ k.store)
    (follows a.scenario (past_at a) t acc.number name acc.word acc.line at)

pub keeps_charged : (a : Audit) (l : Lists) (sums : Summed) (t name e n : ℕ) → Keeps a l → Accepts a t (calls.Charge name n)
    → value_in keys.Bank (named_voucher (store_at a) t name) ≡ Some (numbered_value a.history e) → StandsAt a.history (store_at a).live keys.Bank (Some e)
    → FollowsCharge e t n l.sums sums → Keeps (advanced a) (record l { tasks = begun_one l.tasks t; sums = sums })
keeps_charged a l sums t name e n k acc named good follows =
    let x = charge_done a.scenario (past_at a) t acc.number acc.word name n acc.line (k.legal, acc.next.follows) in
    let at : IsAt a.scenario (past_at a) keys.Bank t name e = record { value = numbered_value a.history e; named = named; there = stands_made a l keys.Bank e k good (plain x) } in
    keeps_answer a l l.tasks sums t acc.number acc.word replies.Done k (goes_same a.history l.live l.tasks) acc.next
    (same_store a.scenario (store_at a) t acc.number (calls.Charge name n) refl acc.line ∙ k.store)
    (follows a.scenario (past_at a) acc.number name acc.word acc.line at)
  where
    plain : IsCharge a.scenario (past_at a) t name → is_default (numbered_value a.history e) ≡ false
    plain (inl p) = ap is_default (some_eq (numbered_value a.history e) (values.Task t) (sym named ∙ p))
    plain (inr p) = ap is_default (some_eq (numbered_value a.history e) (values.Account p.0 t) (sym named ∙ p.1))

pub accepts_within : (a : Audit) (l : Lists) (t : ℕ) (call : Call) → Keeps a l → Accepts a t call → (1 ≤ t) × (t ≤ length l.tasks)
accepts_within a l t call k acc = task_within a l k t (answer_task a l t acc.number acc.word replies.Done k acc.next)

pub few_before : (a : Audit) (l : Lists) (t : ℕ) → Keeps a l → (at_task l.tasks t empty_desk).begun < 4294967295
few_before a l t k = let f : (at_task l.tasks t empty_desk).begun ≤ 16384 = few_kept a l k t in omega (arith, f)

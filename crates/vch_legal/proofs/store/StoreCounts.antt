-- Each entry of a legal history leaves a store that is as small.
use Rattle.std.proofs.Common.{◌≡◌, ℕ, suc, ◌+◌, ◌<◌, ◌≤◌, ◌==◌, Bool, true, false, not, List, [], ◌∷◌, refl, arith, ◌∙◌, subst, length, length-append, map, Some, None, Option, Ok, Err, Result}
use Rattle.std.proofs.lemmas.List.{length-map}
use Rattle.std.specs.Prelude.{◌^◌, if◌then◌else◌, ℤ}
use Rattle.std.specs.List.{AllByRecursion}
use Rattle.vch_base.proofs.CallerLemmas.{as_long}
use Rattle.vch_base.specs.declared.flags.Flags.{Flags}
use Rattle.vch_model.specs.declared.call.Call.{Call}
use Rattle.vch_model.specs.declared.call.Call.TheVariants as calls
use Rattle.vch_model.specs.declared.call.Line.{Line}
use Rattle.vch_model.specs.declared.entry.Entry.{Entry}
use Rattle.vch_model.specs.declared.entry.Entry.TheVariants as entries
use Rattle.vch_model.specs.declared.lists.Scenario.{Scenario}
use Rattle.vch_model.specs.Voucher.{Voucher}
use Rattle.vch_model.specs.Store.{Store, Member, Message, Alive, nobody, member, set_member, voucher_of, name_of, given, is_full}
use Rattle.vch_model.specs.Eval.{create}
use Rattle.vch_model.specs.Transfer.{before, after}
use Rattle.vch_model.specs.Lines.{is_task, line_at}
use Rattle.vch_model.specs.Grammar.{IsSmall}
use Rattle.vch_model.specs.After.{is_want, placed, appended, queued, let_go, sent, taken_first, received, store_after_call, store_after_line, gone, lost, without_made, store_of}
use Rattle.vch_model.specs.Scenarios.{IsLimited}
use Rattle.vch_legal.proofs.lines.EachLine.{line_fits, all_joined}
use Rattle.vch_legal.proofs.store.StoreSmall.{MessageFits, MadeWithin, MemberSmall, StoreSmall, all_mapped, of_task, with_task, later_member, named_small, less_small, gone_small, queued_small, taken_small, nobody_small}

pub member_small : (sc : Scenario) (n : ℕ) (s : Store) (t : ℕ) → StoreSmall sc n s → MemberSmall n (member s t)
member_small sc n s t h = of_task (MemberSmall n) s.tasks t nobody h.tasks (nobody_small n)

later_made : (n k : ℕ) (live : List Alive) → n ≤ k → AllByRecursion (MadeWithin n) live → AllByRecursion (MadeWithin k) live
later_made n k live l = all_mapped (MadeWithin n) (MadeWithin k) (λ a p. (p.0, omega (arith, l, p.1))) live

pub later_store : (sc : Scenario) (n k : ℕ) (s : Store) → n ≤ k → StoreSmall sc n s → StoreSmall sc k s
later_store sc n k s l h = record {
  tasks = all_mapped (MemberSmall n) (MemberSmall k) (λ m p. later_member n k m l p) s.tasks h.tasks;
  as_many = h.as_many;
  made = later_made n k s.live l h.made;
  few_live = omega (arith, l, h.few_live);
}

with_small : (sc : Scenario) (n : ℕ) (s : Store) (t : ℕ) (x : Member) → StoreSmall sc n s → MemberSmall n x
    → StoreSmall sc n (set_member s t x)
with_small sc n s t x h p = record {
  tasks = with_task (MemberSmall n) s.tasks t x h.tasks p;
  as_many = as_long s.tasks t x ∙ h.as_many;
  made = h.made;
  few_live = h.few_live;
}

one_later : (n : ℕ) → n ≤ n + 1
one_later n = omega arith

-- with one more of a task
more_small : (sc : Scenario) (n : ℕ) (s : Store) (t : ℕ) (x : Member) → StoreSmall sc n s → MemberSmall (n + 1) x
    → StoreSmall sc (n + 1) (set_member s t x)
more_small sc n s t x h p = with_small sc (n + 1) s t x (later_store sc n (n + 1) s (one_later n) h) p

given_small : (sc : Scenario) (n : ℕ) (s : Store) (t : ℕ) (v : Voucher) → StoreSmall sc n s → StoreSmall sc (n + 1) (given s t v)
given_small sc n s t v h =
    more_small sc n s t _ h (named_small n (member s t) v (name_of (member s t).names v) (member_small sc n s t h))

store_if : (sc : Scenario) (n : ℕ) (b : Bool) (x y : Store) → StoreSmall sc n x → StoreSmall sc n y
    → StoreSmall sc n (if b then x else y)
store_if sc n true x y p q = p
store_if sc n false x y p q = q

placed_small : (sc : Scenario) (n : ℕ) (s : Store) (t : ℕ) (r : Result (Option Voucher) ℤ) → StoreSmall sc n s
    → StoreSmall sc (n + 1) (placed s t r)
placed_small sc n s t (Ok (Some v)) h = given_small sc n s t v h
placed_small sc n s t (Ok None) h = later_store sc n (n + 1) s (one_later n) h
placed_small sc n s t (Err code) h = later_store sc n (n + 1) s (one_later n) h

let_go_small : (sc : Scenario) (n : ℕ) (s : Store) (t name : ℕ) → StoreSmall sc n s → StoreSmall sc n (let_go s t name)
let_go_small sc n s t name h = with_small sc n s t _ h (less_small n name (member s t) (member_small sc n s t h))

appended_small : (sc : Scenario) (n : ℕ) (s : Store) (to : ℕ) (q : Message) → StoreSmall sc n s → MessageFits q
    → StoreSmall sc (n + 1) (appended s to q)
appended_small sc n s to q h f = more_small sc n s to _ h (queued_small n (member s to) q (member_small sc n s to h) f)

queue_small : (sc : Scenario) (n : ℕ) (s : Store) (to : ℕ) (q : Message) → StoreSmall sc n s → MessageFits q
    → StoreSmall sc (n + 1) (queued sc s to q)
queue_small sc n s to q h f =
    store_if sc (n + 1) (is_full sc s to) s (appended s to q) (later_store sc n (n + 1) s (one_later n) h)
    (appended_small sc n s to q h f)

sent_small : (sc : Scenario) (n : ℕ) (s : Store) (t to : ℕ) (moving : Bool) (name id : ℕ) (o : Option Voucher)
    → StoreSmall sc n s → t < 2 ^ 32 → id < 2 ^ 32 → StoreSmall sc (n + 1) (sent sc s t to moving name id o)
sent_small sc n s t to moving name id None h a b = later_store sc n (n + 1) s (one_later n) h
sent_small sc n s t to moving name id (Some v) h a b =
    store_if sc (n + 1) (is_full sc s to) s (if moving then let_go mid t name else mid)
    (later_store sc n (n + 1) s (one_later n) h)
    (store_if sc (n + 1) moving (let_go mid t name) mid (let_go_small sc (n + 1) mid t name r) r)
  where
    mid : Store
    mid = appended s to (record { sender = t; id = id; voucher = Some (before t v) })

    r : StoreSmall sc (n + 1) mid
    r = appended_small sc n s to (record { sender = t; id = id; voucher = Some (before t v) }) h (a, b)

pub taken_store : (sc : Scenario) (n : ℕ) (s : Store) (t : ℕ) (q : Message) (queue : List Message) → (member s t).queue ≡ q ∷ queue
    → StoreSmall sc n s → StoreSmall sc n (taken_first s t queue)
taken_store sc n s t q queue e h = with_small sc n s t _ h (taken_small n (member s t) q queue e (member_small sc n s t h))

received_small : (sc : Scenario) (n : ℕ) (s : Store) (t : ℕ) (queue : List Message) → (member s t).queue ≡ queue
    → StoreSmall sc n s → StoreSmall sc (n + 1) (received sc s t queue)
received_small sc n s t [] e h = later_store sc n (n + 1) s (one_later n) h
received_small sc n s t (q ∷ queue) e h = by_voucher q.voucher
  where
    taken : StoreSmall sc n (taken_first s t queue)
    taken = taken_store sc n s t q queue e h

    by_voucher : (o : Option Voucher) → StoreSmall sc (n + 1)
        (elim o [ None ↦ taken_first s t queue | Some v ↦ given (taken_first s t queue) t (after sc t v) ])
    by_voucher None = later_store sc n (n + 1) (taken_first s t queue) (one_later n) taken
    by_voucher (Some v) = given_small sc n (taken_first s t queue) t (after sc t v) taken

lost_small : (sc : Scenario) (n : ℕ) (s : Store) (t : ℕ) (queue : List Message) → (member s t).queue ≡ queue
    → StoreSmall sc n s → StoreSmall sc n (lost s t queue)
lost_small sc n s t [] e h = h
lost_small sc n s t (q ∷ queue) e h = taken_store sc n s t q queue e h

gone_store : (sc : Scenario) (n : ℕ) (s : Store) (t name : ℕ) → StoreSmall sc n s → StoreSmall sc n (gone s t name)
gone_store sc n s t name h = with_small sc n s t _ h (gone_small n name (member s t) (member_small sc n s t h))

call_small : (sc : Scenario) (n : ℕ) (s : Store) (t : ℕ) (call : Call) → StoreSmall sc n s → t < 2 ^ 32 → IsSmall call
    → StoreSmall sc (n + 1) (store_after_call sc s t call)
call_small sc n s t (calls.Create bytes) h a b =
    placed_small sc n s t (create sc.version (voucher_of (member s t).names) t bytes) h
call_small sc n s t (calls.GiveUp name) h a b =
    later_store sc n (n + 1) (let_go s t name) (one_later n) (let_go_small sc n s t name h)
call_small sc n s t (calls.Send to moving name id) h a b =
    store_if sc (n + 1) (not (is_task sc to)) s _ (later_store sc n (n + 1) s (one_later n) h)
    (store_if sc (n + 1) (name == 0) _ _ (queue_small sc n s to (record { sender = t; id = id; voucher = None }) h (a, b.2))
    (sent_small sc n s t to moving name id (voucher_of (member s t).names name) h a b.2))
call_small sc n s t calls.Recv h a b = received_small sc n s t (member s t).queue refl h
call_small sc n s t (calls.Extract name key) h a b = later_store sc n (n + 1) s (one_later n) h
call_small sc n s t (calls.Recipes name) h a b = later_store sc n (n + 1) s (one_later n) h
call_small sc n s t (calls.Extern name adding k) h a b = later_store sc n (n + 1) s (one_later n) h
call_small sc n s t (calls.Charge name k) h a b = later_store sc n (n + 1) s (one_later n) h
call_small sc n s t calls.Ledger h a b = later_store sc n (n + 1) s (one_later n) h
call_small sc n s t calls.Assertions h a b = later_store sc n (n + 1) s (one_later n) h
call_small sc n s t calls.Live h a b = later_store sc n (n + 1) s (one_later n) h
call_small sc n s t calls.Exit h a b = later_store sc n (n + 1) s (one_later n) h

line_small : (sc : Scenario) (n : ℕ) (s : Store) (t k : ℕ) (o : Option (ℕ × Line)) → IsLimited sc → line_at sc t k ≡ o
    → StoreSmall sc n s → StoreSmall sc (n + 1) (store_after_line sc s t o)
line_small sc n s t k None limited e h = later_store sc n (n + 1) s (one_later n) h
line_small sc n s t k (Some l) limited e h =
    let f = line_fits sc t k l limited e in call_small sc n s t l.1.call h f.task.1 f.small

without_made_within : (n e : ℕ) (live : List Alive) → AllByRecursion (MadeWithin n) live → AllByRecursion (MadeWithin n) (without_made live e)
without_made_within n e [] h = tt
without_made_within n e (l ∷ live) h = by_test (l.made == e) (without_made_within n e live h.1)
  where
    by_test : (b : Bool) → AllByRecursion (MadeWithin n) (without_made live e)
        → AllByRecursion (MadeWithin n) (if b then live else l ∷ without_made live e)
    by_test true r = h.1
    by_test false r = (h.0, r)

without_made_long : (e : ℕ) (live : List Alive) → length (without_made live e) ≤ length live
without_made_long e [] = omega arith
without_made_long e (l ∷ live) = by_test (l.made == e) (without_made_long e live)
  where
    by_test : (b : Bool) → length (without_made live e) ≤ length live
        → length (if b then live else l ∷ without_made live e) ≤ suc (length live)
    by_test true r = omega arith
    by_test false r = omega (arith, r)

plus_one : (sc : Scenario) (n : ℕ) (s : Store) → StoreSmall sc (n + 1) s → StoreSmall sc (suc n) s
plus_one sc n s h = subst (λ k. StoreSmall sc k s) (same n) h
  where
    same : (n : ℕ) → n + 1 ≡ suc n
    same n = omega arith

pub past_small : (sc : Scenario) (past : List Entry) → IsLimited sc → StoreSmall sc (length past) (store_of sc past)
past_small sc [] limited = record { tasks = none sc.flags; as_many = length-map sc.flags (λ _. nobody); made = tt; few_live = omega arith }
  where
    none : (flags : List Flags) → AllByRecursion (MemberSmall 0) (map (λ _. nobody) flags)
    none [] = tt
    none (f ∷ flags) = (nobody_small 0, none flags)
past_small sc (entries.Call t n word reply ∷ past) limited =
    plus_one sc (length past) _ (store_if sc (length past + 1) (is_want reply) (store_of sc past)
    (store_after_line sc (store_of sc past) t (line_at sc t n))
    (later_store sc (length past) (length past + 1) (store_of sc past) (one_later (length past)) (past_small sc past limited))
    (line_small sc (length past) (store_of sc past) t n (line_at sc t n) limited refl (past_small sc past limited)))
past_small sc (entries.Made k x ∷ past) limited =
    let h : StoreSmall sc (length past + 1) (store_of sc past) =
    later_store sc (length past) (length past + 1) (store_of sc past) (one_later (length past)) (past_small sc past limited) in
    plus_one sc (length past) _ (record {
      tasks = h.tasks;
      as_many = h.as_many;
      made = all_joined (MadeWithin (length past + 1)) (store_of sc past).live _ h.made ((omega arith, omega arith), tt);
      few_live = let e = length-append (store_of sc past).live (record { key = k; value = x; made = length past + 1 } ∷ []) in
          omega (arith, e, (past_small sc past limited).few_live);
    })
past_small sc (entries.Released e ∷ past) limited =
    let h : StoreSmall sc (length past + 1) (store_of sc past) =
    later_store sc (length past) (length past + 1) (store_of sc past) (one_later (length past)) (past_small sc past limited) in
    plus_one sc (length past) _ (record {
      tasks = h.tasks;
      as_many = h.as_many;
      made = without_made_within (length past + 1) e (store_of sc past).live h.made;
      few_live = let l = without_made_long e (store_of sc past).live in omega (arith, l, h.few_live);
    })
past_small sc (entries.Gone t name ∷ past) limited =
    plus_one sc (length past) _ (later_store sc (length past) (length past + 1) _ (one_later (length past))
    (gone_store sc (length past) (store_of sc past) t name (past_small sc past limited)))
past_small sc (entries.Lost t ∷ past) limited =
    plus_one sc (length past) _ (later_store sc (length past) (length past + 1) _ (one_later (length past))
    (lost_small sc (length past) (store_of sc past) t (member (store_of sc past) t).queue refl (past_small sc past limited)))
past_small sc (entries.Phase ∷ past) limited =
    plus_one sc (length past) _ (later_store sc (length past) (length past + 1) _ (one_later (length past)) (past_small sc past limited))

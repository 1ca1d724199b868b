-- The store after a history has the tasks of the scenario.
use Rattle.std.proofs.Common.{◌≡◌, ℕ, suc, Bool, List, [], ◌∷◌, ◌++◌, refl, true, false, ap, ◌∙◌, length, map, Some, None, Option, Ok, Err, Result}
use Rattle.std.specs.Prelude.{if◌then◌else◌, ◌==◌, not, ℤ}
use Rattle.vch_base.proofs.CallerLemmas.{as_long}
use Rattle.vch_base.specs.declared.flags.Flags.{Flags}
use Rattle.vch_model.specs.declared.call.Call.{Call}
use Rattle.vch_model.specs.declared.call.Call.TheVariants as calls
use Rattle.vch_model.specs.declared.call.Line.{Line}
use Rattle.vch_model.specs.declared.entry.Entry.{Entry}
use Rattle.vch_model.specs.declared.entry.Entry.TheVariants as entries
use Rattle.vch_model.specs.declared.lists.Scenario.{Scenario}
use Rattle.vch_model.specs.Voucher.{Voucher}
use Rattle.vch_model.specs.Lines.{is_task, line_at}
use Rattle.vch_model.specs.Store.{Store, Member, Message, nobody, member, set_member, voucher_of, name_of, with_name, given, is_full}
use Rattle.vch_model.specs.Eval.{create}
use Rattle.vch_model.specs.Transfer.{before, after}
use Rattle.vch_model.specs.After.{is_want, placed, appended, let_go, sent, taken_first, received, store_after_call, store_after_line, lost, store_after, store_of}

-- as many tasks as before
abbrev Same : Store → Store → Type 0
Same s o = length o.tasks ≡ length s.tasks

same_set : (s : Store) (t : ℕ) (x : Member) → Same s (set_member s t x)
same_set s t x = as_long s.tasks t x

same_if : (s a b : Store) (c : Bool) → Same s a → Same s b → Same s (if c then a else b)
same_if s a b true h k = h
same_if s a b false h k = k

same_given : (s : Store) (t : ℕ) (v : Voucher) → Same s (given s t v)
same_given s t v = same_set s t (with_name (member s t) v (name_of (member s t).names v))

same_placed : (s : Store) (t : ℕ) (r : Result (Option Voucher) ℤ) → Same s (placed s t r)
same_placed s t (Ok (Some v)) = same_given s t v
same_placed s t (Ok None) = refl
same_placed s t (Err code) = refl

same_appended : (s : Store) (to : ℕ) (q : Message) → Same s (appended s to q)
same_appended s to q = same_set s to (record (member s to) { queue = (member s to).queue ++ q ∷ [] })

same_sent : (sc : Scenario) (s : Store) (t to : ℕ) (moving : Bool) (name id : ℕ) (v : Option Voucher)
    → Same s (sent sc s t to moving name id v)
same_sent sc s t to moving name id None = refl
same_sent sc s t to moving name id (Some v) =
    same_if s s _ (is_full sc s to) refl (same_if s (let_go mid t name) mid moving
    (as_long mid.tasks t _ ∙ same_appended s to (record { sender = t; id = id; voucher = Some (before t v) }))
    (same_appended s to (record { sender = t; id = id; voucher = Some (before t v) })))
  where
    mid : Store
    mid = appended s to (record { sender = t; id = id; voucher = Some (before t v) })

same_received : (sc : Scenario) (s : Store) (t : ℕ) (queue : List Message) → Same s (received sc s t queue)
same_received sc s t [] = refl
same_received sc s t (q ∷ queue) = by_voucher q.voucher
  where
    by_voucher : (v : Option Voucher) → Same s (elim v [
      | None ↦ taken_first s t queue
      | Some w ↦ given (taken_first s t queue) t (after sc t w)
    ])
    by_voucher None = as_long s.tasks t _
    by_voucher (Some w) = same_given (taken_first s t queue) t (after sc t w) ∙ as_long s.tasks t _

same_call : (sc : Scenario) (s : Store) (t : ℕ) (call : Call) → Same s (store_after_call sc s t call)
same_call sc s t (calls.Create bytes) = same_placed s t (create sc.version (voucher_of (member s t).names) t bytes)
same_call sc s t (calls.GiveUp name) = as_long s.tasks t _
same_call sc s t (calls.Send to moving name id) =
    same_if s s _ (not (is_task sc to)) refl (same_if s _ _ (name == 0)
    (same_if s s _ (is_full sc s to) refl (same_appended s to (record { sender = t; id = id; voucher = None })))
    (same_sent sc s t to moving name id (voucher_of (member s t).names name)))
same_call sc s t calls.Recv = same_received sc s t (member s t).queue
same_call sc s t (calls.Extract name key) = refl
same_call sc s t (calls.Recipes name) = refl
same_call sc s t (calls.Extern name adding n) = refl
same_call sc s t (calls.Charge name n) = refl
same_call sc s t calls.Ledger = refl
same_call sc s t calls.Assertions = refl
same_call sc s t calls.Live = refl
same_call sc s t calls.Exit = refl

same_line : (sc : Scenario) (s : Store) (t : ℕ) (line : Option (ℕ × Line)) → Same s (store_after_line sc s t line)
same_line sc s t None = refl
same_line sc s t (Some l) = same_call sc s t l.1.call

same_lost : (s : Store) (t : ℕ) (queue : List Message) → Same s (lost s t queue)
same_lost s t [] = refl
same_lost s t (q ∷ queue) = as_long s.tasks t _

same_after : (sc : Scenario) (count : ℕ) (s : Store) (entry : Entry) → Same s (store_after sc count s entry)
same_after sc count s (entries.Call t n word reply) =
    same_if s s _ (is_want reply) refl (same_line sc s t (line_at sc t n))
same_after sc count s (entries.Made k x) = refl
same_after sc count s (entries.Released e) = refl
same_after sc count s (entries.Gone t name) = as_long s.tasks t _
same_after sc count s (entries.Lost t) = same_lost s t (member s t).queue
same_after sc count s entries.Phase = refl

each_nobody : (flags : List Flags) → length (map (λ _. nobody) flags) ≡ length flags
each_nobody [] = refl
each_nobody (f ∷ flags) = ap suc (each_nobody flags)

pub as_many_tasks : (sc : Scenario) (past : List Entry) → length (store_of sc past).tasks ≡ length sc.flags
as_many_tasks sc [] = each_nobody sc.flags
as_many_tasks sc (entry ∷ past) = same_after sc (length past) (store_of sc past) entry ∙ as_many_tasks sc past

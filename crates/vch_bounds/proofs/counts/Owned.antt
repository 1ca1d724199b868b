-- What tasks have grows by one an answer at most, and falls where an exit gives up a name or a message.
use Rattle.std.proofs.Common.{◌≡◌, ℕ, ◌+◌, ◌*◌, ◌≤◌, Bool, List, [], ◌∷◌, ◌++◌, refl, true, false, arith, map, Some, None, Option, Ok, Err, Result}
use Rattle.std.specs.Prelude.{if◌then◌else◌, ◌==◌, not, ℤ}
use Rattle.vch_base.specs.declared.flags.Flags.{Flags}
use Rattle.vch_model.specs.declared.call.Call.{Call}
use Rattle.vch_model.specs.declared.call.Call.TheVariants as calls
use Rattle.vch_model.specs.declared.call.Line.{Line}
use Rattle.vch_model.specs.declared.entry.Entry.{Entry}
use Rattle.vch_model.specs.declared.entry.Entry.TheVariants as entries
use Rattle.vch_model.specs.declared.lists.Scenario.{Scenario}
use Rattle.vch_model.specs.Voucher.{Voucher}
use Rattle.vch_model.specs.Eval.{create}
use Rattle.vch_model.specs.Transfer.{before, after}
use Rattle.vch_model.specs.Legal.{LegalPast}
use Rattle.vch_model.specs.Lines.{is_task, line_at}
use Rattle.vch_model.specs.Store.{Store, Member, Message, nobody, member, set_member, voucher_of, name_of, with_name, given, one_less, lowest, without_name, is_full, is_empty}
use Rattle.vch_model.specs.After.{is_want, placed, appended, let_go, sent, taken_first, received, store_after_call, store_after_line, gone, lost, store_of}
use Rattle.vch_bounds.specs.Rooms.{answers_in, given_up_in}
use Rattle.vch_bounds.specs.Sums.{sum_tasks}
use Rattle.vch_bounds.proofs.lists.TaskSums.{set_sum}

-- a number of what a task has, that a name, a user reference and a message raise by one at most, and of which a name and a message
-- that an exit gives up take c
pub record IsCount (f : Member → ℕ) (c : ℕ) : Type 0 where
  pub nobody : f nobody ≡ 0
  pub named : (x : Member) (v : Voucher) (name : Option ℕ) → f (with_name x v name) ≤ f x + 1
  pub less : (x : Member) (name : ℕ) → f (record x { names = one_less x.names name }) ≤ f x
  pub gone : (x : Member) (name : ℕ) → lowest x.names ≡ Some name → f (record x { names = without_name x.names name }) + c ≤ f x
  pub queued : (x : Member) (q : Message) → f (record x { queue = x.queue ++ q ∷ [] }) ≤ f x + 1
  pub taken : (x : Member) (q : Message) (queue : List Message) → x.queue ≡ q ∷ queue → f (record x { queue = queue }) + c ≤ f x

module _ (f : Member → ℕ) (c : ℕ) (is : IsCount f c) where
  abbrev pub all_of : Store → ℕ
  all_of s = sum_tasks (λ t (x : Member). f x) 1 s.tasks

  -- one task is replaced
  set_all : (s : Store) (t : ℕ) (x : Member) (a b : ℕ) → f x + a ≤ f (member s t) + b
      → all_of (set_member s t x) + a ≤ all_of s + b
  set_all s t x a b h = set_sum (λ u (y : Member). f y) s.tasks t x nobody a b is.nobody h

  more : (a b : ℕ) → a ≤ b + 1 → a + 0 ≤ b + 1
  more a b h = omega arith

  less : (a b : ℕ) → a ≤ b → a + 0 ≤ b + 0
  less a b h = omega arith

  no_more : (a b : ℕ) → a + 0 ≤ b + 1 → a ≤ b + 1
  no_more a b h = omega arith

  still : (a b : ℕ) → a + 0 ≤ b + 0 → a ≤ b
  still a b h = omega arith

  same_or : (a : ℕ) → a ≤ a + 1
  same_or a = omega arith

  up_to : (a b : ℕ) → a ≤ b → a ≤ b + 1
  up_to a b h = omega arith

  all_if : (n : ℕ) (b : Bool) (x y : Store) → all_of x ≤ n → all_of y ≤ n → all_of (if b then x else y) ≤ n
  all_if n true x y h k = h
  all_if n false x y h k = k

  all_given : (s : Store) (t : ℕ) (v : Voucher) → all_of (given s t v) ≤ all_of s + 1
  all_given s t v =
      no_more _ _ (set_all s t (with_name (member s t) v (name_of (member s t).names v)) 0 1
      (more _ _ (is.named (member s t) v (name_of (member s t).names v))))

  all_placed : (s : Store) (t : ℕ) (r : Result (Option Voucher) ℤ) → all_of (placed s t r) ≤ all_of s + 1
  all_placed s t (Ok (Some v)) = all_given s t v
  all_placed s t (Ok None) = same_or (all_of s)
  all_placed s t (Err code) = same_or (all_of s)

  all_appended : (s : Store) (to : ℕ) (q : Message) → all_of (appended s to q) ≤ all_of s + 1
  all_appended s to q =
      no_more _ _ (set_all s to (record (member s to) { queue = (member s to).queue ++ q ∷ [] }) 0 1
      (more _ _ (is.queued (member s to) q)))

  all_less : (s : Store) (t name : ℕ) → all_of (let_go s t name) ≤ all_of s
  all_less s t name =
      still _ _ (set_all s t (record (member s t) { names = one_less (member s t).names name }) 0 0
      (less _ _ (is.less (member s t) name)))

  all_sent : (sc : Scenario) (s : Store) (t to : ℕ) (moving : Bool) (name id : ℕ) (v : Option Voucher)
      → all_of (sent sc s t to moving name id v) ≤ all_of s + 1
  all_sent sc s t to moving name id None = same_or (all_of s)
  all_sent sc s t to moving name id (Some v) =
      all_if (all_of s + 1) (is_full sc s to) s (if moving then let_go mid t name else mid) (same_or (all_of s))
      (all_if (all_of s + 1) moving (let_go mid t name) mid (then_ _ _ _ (all_less mid t name) r) r)
    where
      mid : Store
      mid = appended s to (record { sender = t; id = id; voucher = Some (before t v) })

      r : all_of mid ≤ all_of s + 1
      r = all_appended s to (record { sender = t; id = id; voucher = Some (before t v) })

      then_ : (a b n : ℕ) → a ≤ b → b ≤ n → a ≤ n
      then_ a b n h k = omega arith

  all_taken : (s : Store) (t : ℕ) (q : Message) (queue : List Message) → (member s t).queue ≡ q ∷ queue
      → all_of (taken_first s t queue) + c ≤ all_of s
  all_taken s t q queue e =
      as_it_was _ _ (set_all s t (record (member s t) { queue = queue }) c 0 (and_none _ _ (is.taken (member s t) q queue e)))
    where
      and_none : (a b : ℕ) → a ≤ b → a ≤ b + 0
      and_none a b h = omega arith

      as_it_was : (a b : ℕ) → a ≤ b + 0 → a ≤ b
      as_it_was a b h = omega arith

  all_received : (sc : Scenario) (s : Store) (t : ℕ) (queue : List Message) → (member s t).queue ≡ queue
      → all_of (received sc s t queue) ≤ all_of s + 1
  all_received sc s t [] e = same_or (all_of s)
  all_received sc s t (q ∷ queue) e = by_voucher q.voucher
    where
      fewer : all_of (taken_first s t queue) + c ≤ all_of s
      fewer = all_taken s t q queue e

      drop_c : (a b : ℕ) → a + c ≤ b → a ≤ b + 1
      drop_c a b h = omega arith

      drop_both : (a b d : ℕ) → a ≤ b + 1 → b + c ≤ d → a ≤ d + 1
      drop_both a b d h k = omega arith

      by_voucher : (o : Option Voucher) → all_of (elim o [
        | None ↦ taken_first s t queue
        | Some v ↦ given (taken_first s t queue) t (after sc t v)
      ]) ≤ all_of s + 1
      by_voucher None = drop_c _ _ fewer
      by_voucher (Some v) = drop_both _ _ _ (all_given (taken_first s t queue) t (after sc t v)) fewer

  all_call : (sc : Scenario) (s : Store) (t : ℕ) (call : Call) → all_of (store_after_call sc s t call) ≤ all_of s + 1
  all_call sc s t (calls.Create bytes) = all_placed s t (create sc.version (voucher_of (member s t).names) t bytes)
  all_call sc s t (calls.GiveUp name) = up_to _ _ (all_less s t name)
  all_call sc s t (calls.Send to moving name id) =
      all_if (all_of s + 1) (not (is_task sc to)) s _ (same_or (all_of s)) (all_if (all_of s + 1) (name == 0) _ _
      (all_if (all_of s + 1) (is_full sc s to) s _ (same_or (all_of s)) (all_appended s to (record { sender = t; id = id; voucher = None })))
      (all_sent sc s t to moving name id (voucher_of (member s t).names name)))
  all_call sc s t calls.Recv = all_received sc s t (member s t).queue refl
  all_call sc s t (calls.Extract name key) = same_or (all_of s)
  all_call sc s t (calls.Recipes name) = same_or (all_of s)
  all_call sc s t (calls.Extern name adding n) = same_or (all_of s)
  all_call sc s t (calls.Charge name n) = same_or (all_of s)
  all_call sc s t calls.Ledger = same_or (all_of s)
  all_call sc s t calls.Assertions = same_or (all_of s)
  all_call sc s t calls.Live = same_or (all_of s)
  all_call sc s t calls.Exit = same_or (all_of s)

  all_line : (sc : Scenario) (s : Store) (t : ℕ) (line : Option (ℕ × Line)) → all_of (store_after_line sc s t line) ≤ all_of s + 1
  all_line sc s t None = same_or (all_of s)
  all_line sc s t (Some l) = all_call sc s t l.1.call

  all_gone : (s : Store) (t name : ℕ) → lowest (member s t).names ≡ Some name → all_of (gone s t name) + c ≤ all_of s
  all_gone s t name e =
      as_it_was _ _ (set_all s t (record (member s t) { names = without_name (member s t).names name }) c 0
      (and_none _ _ (is.gone (member s t) name e)))
    where
      and_none : (a b : ℕ) → a ≤ b → a ≤ b + 0
      and_none a b h = omega arith

      as_it_was : (a b : ℕ) → a ≤ b + 0 → a ≤ b
      as_it_was a b h = omega arith

  all_lost : (s : Store) (t : ℕ) (queue : List Message) → (member s t).queue ≡ queue → is_empty queue ≡ false
      → all_of (lost s t queue) + c ≤ all_of s
  all_lost s t [] e some = cc
  all_lost s t (q ∷ queue) e some = all_taken s t q queue e

  none_yet : (flags : List Flags) (t : ℕ) → sum_tasks (λ u (x : Member). f x) t (map (λ _. nobody) flags) ≡ 0
  none_yet [] t = refl
  none_yet (x ∷ flags) t = let a = is.nobody in let b = none_yet flags (t + 1) in omega (arith, a, b)

  -- after every legal history
  pub owned_few : (sc : Scenario) (past : List Entry) → LegalPast sc past
      → c * given_up_in past + all_of (store_of sc past) ≤ answers_in past
  owned_few sc [] h = let a = none_yet sc.flags 1 in omega (arith, a)
  owned_few sc (entries.Call t n word reply ∷ past) h =
      let r = owned_few sc past h.0 in
      let a : all_of (if is_want reply then store_of sc past else store_after_line sc (store_of sc past) t (line_at sc t n))
      ≤ all_of (store_of sc past) + 1 =
      all_if (all_of (store_of sc past) + 1) (is_want reply) (store_of sc past) _ (same_or (all_of (store_of sc past)))
      (all_line sc (store_of sc past) t (line_at sc t n)) in
      omega (arith, r, a)
  owned_few sc (entries.Made k x ∷ past) h = let r = owned_few sc past h.0 in omega (arith, r)
  owned_few sc (entries.Released e ∷ past) h = let r = owned_few sc past h.0 in omega (arith, r)
  owned_few sc (entries.Gone t name ∷ past) h =
      let r = owned_few sc past h.0 in
      let a = all_gone (store_of sc past) t name h.1.1 in
      omega (arith, r, a)
  owned_few sc (entries.Lost t ∷ past) h =
      let r = owned_few sc past h.0 in
      let a = all_lost (store_of sc past) t (member (store_of sc past) t).queue refl h.1.2 in
      omega (arith, r, a)
  owned_few sc (entries.Phase ∷ past) h = let r = owned_few sc past h.0 in omega (arith, r)

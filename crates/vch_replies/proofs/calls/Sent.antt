-- Replies to sends and receives that move no voucher, to drops, and to creates of no record.
use Rattle.std.proofs.Common.{◌≡◌, ℕ, suc, Bool, true, false, List, [], ◌∷◌, length, map, refl, arith, sym, ap, ◌∙◌, Option, Some, None, is_some, Ok, Err}
use Rattle.std.specs.Prelude.{nat_lt, not}
use Rattle.std.specs.Option.{option_map}
use Rattle.vch_base.specs.declared.codes.TheConstants.{MIG_ARRAY_TOO_LARGE}
use Rattle.vch_base.specs.declared.limits.TheConstants.{ARRAY_BYTES}
use Rattle.vch_model.specs.declared.call.Call.TheVariants as calls
use Rattle.vch_model.specs.declared.entry.Reply.TheVariants as replies
use Rattle.vch_model.specs.declared.lists.Scenario.{Scenario}
use Rattle.vch_model.specs.Eval.{create}
use Rattle.vch_model.specs.Lines.{is_task}
use Rattle.vch_model.specs.Replies.{refused, given_up, created, sending, receiving}
use Rattle.vch_model.specs.Store as store
use Rattle.vch_model.specs.Totals.{named_voucher}
use Rattle.vch_model.specs.Voucher as model
use Rattle.vch_machine.specs.Beginning.{store_reply}
use Rattle.vch_machine.specs.State as machine
use Rattle.vch_machine.specs.State.{Handles, Living, Machine, message_of, member_of, tasked, seen}
use Rattle.vch_legal.proofs.CallerLemmas.{member_seen}
use Rattle.vch_frame.specs.Pairs.{Optional, Pairwise}
use Rattle.vch_frame.proofs.CallerLemmas.{task_number}
use Rattle.vch_vouchers.specs.Desks.{Voucher}
use Rattle.vch_vouchers.specs.declared.answers.Message.{Message}
use Rattle.vch_parts.specs.Plain.{Plain, part_of}
use Rattle.vch_parts.specs.Shape.{IsMap, IsMessage}
use Rattle.vch_replies.specs.Begins.{Begins}
use Rattle.vch_replies.specs.Replied.{is_full, send_told, is_bare, recv_told}
use Rattle.vch_replies.specs.Told.{named_by, values_of, values_by}
use Rattle.vch_replies.proofs.named.Named.{named_here, task_here}

as_long : {A B : Type 0} (r : A → B → Type 0) (xs : List A) (ys : List B) → Pairwise r xs ys → length ys ≡ length xs
as_long r [] [] p = refl
as_long r [] (y ∷ ys) p = absurd p
as_long r (x ∷ xs) [] p = absurd p
as_long r (x ∷ xs) (y ∷ ys) p = ap suc (as_long r xs ys p.1)

map_long : {A B : Type 0} (f : A → B) (xs : List A) → length (map f xs) ≡ length xs
map_long f [] = refl
map_long f (x ∷ xs) = ap suc (map_long f xs)

none_made : (version : ℕ) (names : ℕ → Option model.Voucher) (t : ℕ) (bytes : List ℕ) → length bytes ≡ 0 → create version names t bytes ≡ Ok None
unfolding create
none_made version names t [] e = refl
none_made version names t (b ∷ bytes) e = absurd (omega (arith, e))

too_many : (version : ℕ) (names : ℕ → Option model.Voucher) (t : ℕ) (bytes : List ℕ) → nat_lt ARRAY_BYTES (length bytes) ≡ true
    → create version names t bytes ≡ Err MIG_ARRAY_TOO_LARGE
unfolding create
too_many version names t bytes e = rw e refl

-- a create of no bytes makes no voucher, and one of too many is refused, in every state
pub create_none : (sc : Scenario) (m : Machine) (t : ℕ) (bytes : List ℕ) → length bytes ≡ 0 → store_reply sc m t (calls.Create bytes) ≡ replies.Created 0
create_none sc m t bytes e = ap (created (seen m) t) (none_made sc.version (store.voucher_of (store.member (seen m) t).names) t bytes e)

pub create_many : (sc : Scenario) (m : Machine) (t : ℕ) (bytes : List ℕ) → nat_lt ARRAY_BYTES (length bytes) ≡ true
    → store_reply sc m t (calls.Create bytes) ≡ refused MIG_ARRAY_TOO_LARGE
create_many sc m t bytes e = ap (created (seen m) t) (too_many sc.version (store.voucher_of (store.member (seen m) t).names) t bytes e)

module _ (sc : Scenario) (c : Plain) (m : Machine) (t : ℕ) (b : Begins sc c m t) where
  pub drop_reply : (name : ℕ) → store_reply sc m t (calls.GiveUp name) ≡ given_up (values_by c t name)
  drop_reply name = ap given_up (named_here sc c m t name b)

  -- a queue is full where that of the store is
  full_same : (to : ℕ) → is_task sc to ≡ true → store.is_full sc (seen m) to ≡ is_full c to
  full_same to task =
      ap (λ (x : store.Member). not (nat_lt (length x.queue) (store.limit_of sc to))) (member_seen m to)
      ∙ ap (λ n. not (nat_lt n (store.limit_of sc to))) (map_long (message_of m.live) (tasked m to).queue
      ∙ as_long (IsMessage c.keyed) (part_of c to).queue (tasked m to).queue (task_here sc c m to at_to).queue)
      ∙ ap (λ n. not (nat_lt (length (part_of c to).queue) n)) (sym limit)
    where
      at_to : Begins sc c m to
      at_to = record { stands = b.stands; ties = b.ties; task = task }

      limit : (part_of c to).limit ≡ store.limit_of sc to
      limit =
          let n = task_number sc to task in
          let long : length c.tasks ≡ length m.tasks = b.stands.shape.long in
          let flags : length m.tasks ≡ length sc.flags = b.ties.fits.tasks in
          b.stands.shape.limits to (omega (arith, n.0)) (omega (arith, n.0, n.1, long, flags))

  pub send_reply : (to : ℕ) (moving : Bool) (name id : ℕ) → store_reply sc m t (calls.Send to moving name id) ≡ send_told sc c t to name
  send_reply to moving name id = by_task (is_task sc to) refl
    where
      voucher : named_voucher (seen m) t name ≡ option_map (values_of c.keyed) (named_by c t name)
      voucher = named_here sc c m t name b

      by_voucher : (o : Option Voucher) → named_by c t name ≡ o → is_task sc to ≡ true → sending sc (seen m) t to name ≡ send_told sc c t to name
      by_voucher None e task = let f : named_voucher (seen m) t name ≡ None = voucher ∙ ap (option_map (values_of c.keyed)) e in
          rw (task, f, e, full_same to task) refl
      by_voucher (Some v) e task = let f : named_voucher (seen m) t name ≡ Some (values_of c.keyed v) = voucher ∙ ap (option_map (values_of c.keyed)) e in
          rw (task, f, e, full_same to task) refl

      by_task : (d : Bool) → is_task sc to ≡ d → sending sc (seen m) t to name ≡ send_told sc c t to name
      by_task true e = by_voucher (named_by c t name) refl e
      by_task false e = rw e refl

  bare_reply : (ps : List Message) (qs : List machine.Message) → Pairwise (IsMessage c.keyed) ps qs → is_bare ps ≡ true
      → receiving sc (seen m) t (map (message_of m.live) qs) ≡ recv_told ps
  bare_reply [] [] p e = refl
  bare_reply [] (o ∷ os) p e = absurd p
  bare_reply (q ∷ ps) [] p e = absurd p
  bare_reply (q ∷ ps) (o ∷ os) p e = of_voucher q.voucher o.voucher p.0.2 e ∙ both _ _ _ _ (sym p.0.0) (sym p.0.1)
    where
      of_voucher : (v : Option Voucher) (w : Option Handles) → Optional (IsMap c.keyed) v w → not (is_some v) ≡ true
          → receiving sc (seen m) t (message_of m.live (record o { voucher = w }) ∷ map (message_of m.live) os) ≡ replies.Received o.sender o.id 0
      of_voucher None None p e = refl
      of_voucher None (Some w) p e = absurd p
      of_voucher (Some v) w p e = absurd (cc)

      both : (a d x y : ℕ) → a ≡ x → d ≡ y → replies.Received a d 0 ≡ replies.Received x y 0
      both a d x y g h = cc

  pub recv_reply : is_bare (part_of c t).queue ≡ true → store_reply sc m t calls.Recv ≡ recv_told (part_of c t).queue
  recv_reply e = ap (λ (x : store.Member). receiving sc (seen m) t x.queue) (member_seen m t)
      ∙ bare_reply (part_of c t).queue (tasked m t).queue (task_here sc c m t b).queue e

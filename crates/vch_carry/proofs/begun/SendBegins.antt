-- A send begins: it is refused, queues nothing but a message, or copies a voucher.
use Rattle.std.proofs.Common.{◌≡◌, ◌≢◌, ℕ, zero, suc, ◌+◌, ◌-◌, ◌<◌, ◌≤◌, ◌==◌, nat_lt, not, Bool, true, false, List, [], ◌∷◌, ◌++◌, arith, length, get_or, refl, sym, ap, ◌∙◌, subst, Option, Some, None, ℤ}
use Rattle.std.specs.Prelude.{is_some, if◌then◌else◌}
use Rattle.std.proofs.Math.ListN.{set}
use Rattle.std.proofs.lemmas.Grind.{common_steps}
use Rattle.vch_base.specs.Tasks.{at_task, set_task}
use Rattle.vch_base.proofs.CallerLemmas.{as_long}
use Rattle.vch_base.specs.declared.codes.TheConstants.{MACH_SEND_INVALID_DEST, MACH_SEND_TIMED_OUT, MACH_SEND_INVALID_VOUCHER}
use Rattle.vch_base.specs.declared.fault.Code.{Code}
use Rattle.vch_base.specs.declared.key.Key.TheVariants as keys
use Rattle.vch_base.specs.declared.kind.Kind.TheVariants as kinds
use Rattle.vch_base.specs.Keyed.{Keyed}
use Rattle.vch_model.specs.Lines.{is_task}
use Rattle.vch_model.specs.Replies.{refused}
use Rattle.vch_model.specs.Rows.{Entries}
use Rattle.vch_model.specs.Store.{limit_of}
use Rattle.vch_model.specs.declared.call.Call.{Call}
use Rattle.vch_model.specs.declared.call.Call.TheVariants as calls
use Rattle.vch_model.specs.declared.call.Word.TheVariants as words
use Rattle.vch_model.specs.declared.entry.Entry.{Entry}
use Rattle.vch_model.specs.declared.entry.Entry.TheVariants as entries
use Rattle.vch_model.specs.declared.entry.Reply.{Reply}
use Rattle.vch_model.specs.declared.entry.Reply.TheVariants as replies
use Rattle.vch_machine.specs.Beginning as begins
use Rattle.vch_machine.specs.Beginning.{begin_call, store_reply, key_if}
use Rattle.vch_machine.specs.Frames as frames
use Rattle.vch_machine.specs.Naming.{handles_of}
use Rattle.vch_machine.specs.Next.{nth_call}
use Rattle.vch_machine.specs.State as machine
use Rattle.vch_machine.specs.State.{Handles, Machine, Tasked, tasked, idle}
use Rattle.vch_frame.specs.Pairs.{Optional, Pairwise}
use Rattle.vch_frame.specs.Indices.{index_of}
use Rattle.vch_values.specs.Parts.{KeyParts}
use Rattle.vch_vouchers.specs.Desks as desks
use Rattle.vch_vouchers.specs.Desks.{Desk, AreDesks, desk, voucher_of}
use Rattle.vch_vouchers.specs.declared.answers.Message.{Message}
use Rattle.vch_parts.specs.Asking.{marked}
use Rattle.vch_parts.specs.declared.frames.Working.{Working}
use Rattle.vch_parts.specs.declared.parts.Parts.{Parts}
use Rattle.vch_parts.specs.Framed.{frame_of, begun_of, with_begun_of}
use Rattle.vch_parts.specs.Plain.{Indices, Plain, Part, part_of, idle_part}
use Rattle.vch_parts.specs.Reached.{plain_of, parts_in, Reached, IsState, IsNext, MayFollow}
use Rattle.vch_parts.specs.Shape.{IsMap, IsIndexOf, IsMessage}
use Rattle.vch_parts.proofs.CallerLemmas.{at_key, desk_inside, in_parts, set_desk, side_at}
use Rattle.vch_moves.specs.Steps.{begun_one, queued_part, queued_first, machine_begun}
use Rattle.vch_moves.proofs.CallerLemmas.{queued_stands, may_follow, stands_of, ties_of, send_nowhere, send_full, send_bare, send_unknown, send_framed, voucher_is, own_known}
use Rattle.vch_replies.specs.Replied.{is_full, send_told}
use Rattle.vch_replies.specs.Told.{named_by}
use Rattle.vch_replies.proofs.CallerLemmas.{begins, send_reply}
use Rattle.vch_carry.specs.Carried.{send_refusal}
use Rattle.vch_carry.proofs.glue.Begun.{begun, some_begun, frames_begun}
use Rattle.vch_carry.proofs.glue.Runs.{room_by}
use Rattle.vch_carry.proofs.glue.Steps.{range, own_desk}
use Rattle.vch_carry.proofs.begun.Answered.{uncounted_here, entry_is}
use Rattle.vch_carry.proofs.begun.Copied.{Copies}

-- What a call that is counted as begun leaves as it was.

stays_in : {A : Type 0} (g : Tasked → A) → ((x : Tasked) → g (begins.begun_one x) ≡ g x) → (xs : List Tasked) (i j : ℕ) → g (get_or (set xs i (begins.begun_one (get_or xs i idle))) j idle) ≡ g (get_or xs j idle)
stays_in g h [] i j = refl
stays_in g h (x ∷ xs) zero zero = h x
stays_in g h (x ∷ xs) zero (suc j) = refl
stays_in g h (x ∷ xs) (suc i) zero = refl
stays_in g h (x ∷ xs) (suc i) (suc j) = stays_in g h xs i j

stays_at : {A : Type 0} (g : Tasked → A) → ((x : Tasked) → g (begins.begun_one x) ≡ g x) → (xs : List Tasked) (t u : ℕ) → g (at_task (set_task xs t (begins.begun_one (at_task xs t idle))) u idle) ≡ g (at_task xs u idle)
stays_at g h xs zero u = refl
stays_at g h xs (suc i) zero = refl
stays_at g h xs (suc i) (suc j) = stays_in g h xs i j

pub names_stay : (m : Machine) (t : ℕ) → (tasked (machine_begun m t) t).names ≡ (tasked m t).names
names_stay m t = stays_at (λ (x : Tasked). x.names) (λ x. refl) m.tasks t t

pub queue_stays : (m : Machine) (t u : ℕ) → (tasked (machine_begun m t) u).queue ≡ (tasked m u).queue
queue_stays m t u = stays_at (λ (x : Tasked). x.queue) (λ x. refl) m.tasks t u

as_many : (x : Keyed KeyParts) (qs : List Message) (rs : List machine.Message) → Pairwise (IsMessage x) qs rs → length qs ≡ length rs
as_many x [] [] z = refl
as_many x [] (r ∷ rs) z = absurd z
as_many x (q ∷ qs) [] z = absurd z
as_many x (q ∷ qs) (r ∷ rs) z = let e : length qs ≡ length rs = as_many x qs rs z.1 in omega (arith, e)

-- a code by its number
abbrev pub coded : ℤ → Option Code
coded n = Some (record { number = n })

one_code : {a b : Code} → Some a ≡ Some b → a ≡ b
one_code e = cc

no_code : {a : Code} → None ≡ Some a → ⊥
no_code e = cc

some_code : {a : Code} → Some a ≡ None → ⊥
some_code e = cc

unequal : (n : ℕ) → n ≢ 0 → (n == 0) ≡ false
unequal zero h = absurd (h refl)
unequal (suc n) h = grind (arith, common_steps)

-- the bank is to be asked where the voucher has a value there
bank_asked : (x : Keyed KeyParts) (i h : Option ℕ) → Optional (IsIndexOf x keys.Bank) i h → marked false (is_some i) false false ≡ key_if keys.Bank h
bank_asked x None None e = refl
bank_asked x None (Some h) e = absurd e
bank_asked x (Some i) None e = absurd e
bank_asked x (Some i) (Some h) e = refl

full_queue_is : (a b : ℕ) → a ≤ b → (c : Bool) → ((c ≡ true → a ≡ b) × (a ≡ b → c ≡ true)) → c ≡ not (nat_lt a b)
full_queue_is a b l c h = by (nat_lt a b) refl c refl
  where
    by : (d : Bool) → nat_lt a b ≡ d → (e : Bool) → c ≡ e → e ≡ not d
    by true q true w = absurd (let x : a ≡ b = h.0 w in let y : a < b = grind (arith, common_steps) in omega (arith, x, y))
    by true q false w = refl
    by false q true w = refl
    by false q false w = absurd (let y : b ≤ a = grind (arith, common_steps) in let x : a ≡ b = omega (arith, y, l) in let z : c ≡ true = h.1 x in let no : false ≡ true = sym w ∙ z in cc)

module _ (p : Parts) (t : ℕ) (r : Reached p) (task : is_task p.scenario t ≡ true) where
  abbrev C : Plain
  C = plain_of p

  -- the queue of a task, in the parts
  pub full_is : AreDesks p.vouchers → (c : Bool) → ((c ≡ true → length (desk p.vouchers t).queue ≡ (desk p.vouchers t).limit) × (length (desk p.vouchers t).queue ≡ (desk p.vouchers t).limit → c ≡ true)) → c ≡ is_full C t
  full_is all c h =
      let n = desk_inside p t r task in
      full_queue_is (length (desk p.vouchers t).queue) (desk p.vouchers t).limit (all t n.0 n.1).within c h
      ∙ ap (λ (d : Desk). not (nat_lt (length d.queue) d.limit)) (own_desk p t r task)

  -- a name that is not refused, or is
  pub refusal_of : (to name : ℕ) → is_task p.scenario to ≡ true → name ≢ 0 → (b : Bool) → is_some (voucher_of (desk p.vouchers t).names name) ≡ b
      → send_refusal p.scenario C t to name ≡ (if b then None else Some (record { number = MACH_SEND_INVALID_VOUCHER }))
  refusal_of to name a e b q = rw (a, unequal name e, ap (λ (d : Desk). is_some (voucher_of d.names name)) (sym (own_desk p t r task)) ∙ q) refl

  module _ (next : IsNext p t (Some kinds.Begin)) (free : frame_of p.frames t ≡ None) (to : ℕ) (moving : Bool) (name id : ℕ)
      (is : nth_call p.scenario t (begun_of p.frames t + 1) ≡ Some (calls.Send to moving name id)) where
    abbrev call : Call
    call = calls.Send to moving name id

    -- the machine's side
    module _ (m : Machine) (st : IsState p.scenario C m) where
      told : store_reply p.scenario m t call ≡ send_told p.scenario C t to name
      told = send_reply p.scenario C m t (begins p.scenario C m t st task) to moving name id

      twins : Optional (IsMap p.values) (named_by C t name) (handles_of (tasked m t).names name)
      twins =
          let s = stands_of p.scenario C m st in
          let n = in_parts p.scenario C m t s (ties_of p.scenario C m st) task in
          voucher_is p.values (part_of C t).names (tasked m t).names name (s.shape.tasks t n.0 n.1).names

      same_full : is_task p.scenario to ≡ true → begins.is_full p.scenario (machine_begun m t) to ≡ is_full C to
      same_full e =
          let s = stands_of p.scenario C m st in
          let n = in_parts p.scenario C m to s (ties_of p.scenario C m st) e in
          ap (λ qs. not (nat_lt (length qs) (limit_of p.scenario to))) (queue_stays m t to)
          ∙ rw (← as_many p.values (part_of C to).queue (tasked m to).queue (s.shape.tasks to n.0 n.1).queue, ← s.shape.limits to n.0 n.1) refl

      unknown_now : is_some (named_by C t name) ≡ false → handles_of (tasked (machine_begun m t) t).names name ≡ None
      unknown_now e = ap (λ ns. handles_of ns name) (names_stay m t) ∙ by (named_by C t name) (handles_of (tasked m t).names name) e twins
        where
          by : (a : Option Indices) (b : Option Handles) → is_some a ≡ false → Optional (IsMap p.values) a b → b ≡ None
          by None None e z = refl
          by None (Some w) e z = absurd z
          by (Some v) b e z = absurd (cc)

      answers_with : (reply : Reply) → send_told p.scenario C t to name ≡ reply → begin_call p.scenario false (machine_begun m t) t call (store_reply p.scenario m t call) ≡ begin_call p.scenario false (machine_begun m t) t call reply
      answers_with reply e = ap (begin_call p.scenario false (machine_begun m t) t call) (told ∙ e)

    -- Refused.

    refused_by : (a b c d : Bool) → is_task p.scenario to ≡ a → (name == 0) ≡ b → is_full C to ≡ c → is_some (named_by C t name) ≡ d
        → (code : Code) → (if not a then Some (record { number = MACH_SEND_INVALID_DEST }) else if b then (if c then Some (record { number = MACH_SEND_TIMED_OUT }) else None) else if d then None else Some (record { number = MACH_SEND_INVALID_VOUCHER })) ≡ Some code
        → (m : Machine) → IsState p.scenario C m → begin_call p.scenario false (machine_begun m t) t call (store_reply p.scenario m t call) ≡ frames.replied (machine_begun m t) t call (refused code.number)
    refused_by false b c d e f g h code q m st = answers_with m st (refused MACH_SEND_INVALID_DEST) (rw e refl) ∙ (send_nowhere p.scenario false (machine_begun m t) t (refused MACH_SEND_INVALID_DEST) to name id moving e
        ∙ ap (λ (z : Code). frames.replied (machine_begun m t) t call (refused z.number)) (one_code q))
    refused_by true true true d e f g h code q m st = answers_with m st (refused MACH_SEND_TIMED_OUT) (rw (e, f, g) refl) ∙ (send_full p.scenario false (machine_begun m t) t (refused MACH_SEND_TIMED_OUT) to name id moving e f (same_full m st e ∙ g)
        ∙ ap (λ (z : Code). frames.replied (machine_begun m t) t call (refused z.number)) (one_code q))
    refused_by true true false d e f g h code q m st = absurd (no_code q)
    refused_by true false c true e f g h code q m st = absurd (no_code q)
    refused_by true false c false e f g h code q m st = answers_with m st (refused MACH_SEND_INVALID_VOUCHER) (rw (e, f, h) refl) ∙ (send_unknown p.scenario false (machine_begun m t) t (refused MACH_SEND_INVALID_VOUCHER) to name id moving e f (unknown_now m st h)
        ∙ ap (λ (z : Code). frames.replied (machine_begun m t) t call (refused z.number)) (one_code q))

    pub refuses : (code : Code) → send_refusal p.scenario C t to name ≡ Some code → (m : Machine) → IsState p.scenario C m
        → begin_call p.scenario false (machine_begun m t) t call (store_reply p.scenario m t call) ≡ frames.replied (machine_begun m t) t call (refused code.number)
    refuses code e = refused_by (is_task p.scenario to) (name == 0) (is_full C to) (is_some (named_by C t name)) refl refl refl refl code e

    -- Accepted.

    module _ (accepted : send_refusal p.scenario C t to name ≡ None) where
      task_by : (a : Bool) (o : Option Code) → (if not a then Some (record { number = MACH_SEND_INVALID_DEST }) else o) ≡ None → a ≡ true
      task_by true o e = refl
      task_by false o e = absurd (some_code e)

      pub to_task : is_task p.scenario to ≡ true
      to_task = task_by (is_task p.scenario to) _ accepted

      pub to_inside : (1 ≤ to) × (to ≤ length p.vouchers)
      to_inside = desk_inside p to r to_task

      module _ (nothing : name ≡ 0) where
        no_name : (name == 0) ≡ true
        no_name = ap (λ n. n == 0) nothing

        room_by_full : (a b c : Bool) → a ≡ true → b ≡ true → (o : Option Code) → (if not a then Some (record { number = MACH_SEND_INVALID_DEST }) else if b then (if c then Some (record { number = MACH_SEND_TIMED_OUT }) else None) else o) ≡ None → c ≡ false
        room_by_full true true false e f o q = refl
        room_by_full true true true e f o q = absurd (some_code q)
        room_by_full true false c e f o q = absurd (cc)
        room_by_full false b c e f o q = absurd (cc)

        not_full : is_full C to ≡ false
        not_full = room_by_full (is_task p.scenario to) (name == 0) (is_full C to) to_task no_name _ accepted

        pub queue_room : AreDesks p.vouchers → length (desk p.vouchers to).queue ≢ (desk p.vouchers to).limit
        queue_room all e =
            let z : is_full C to ≡ true = ap (λ (d : Desk). not (nat_lt (length d.queue) d.limit)) (sym (own_desk p to r to_task)) ∙ ap not (equal _ _ e) in
            let no : true ≡ false = sym z ∙ not_full in cc
          where
            equal : (a b : ℕ) → a ≡ b → nat_lt a b ≡ false
            equal a b e = grind arith

        abbrev Q : Message
        Q = record { sender = t; id = id; voucher = None }

        queues : (m : Machine) → IsState p.scenario C m → begin_call p.scenario false (machine_begun m t) t call (store_reply p.scenario m t call)
            ≡ frames.replied (begins.enqueued (machine_begun m t) to (record { sender = t; id = id; voucher = None })) t call replies.Done
        queues m st = answers_with m st replies.Done (rw (to_task, no_name, not_full) refl) ∙ send_bare p.scenario false (machine_begun m t) t replies.Done to name id moving to_task no_name (same_full m st to_task ∙ not_full)

        pub nothing_room : 1 ≤ p.history.spare
        nothing_room = some_begun p t r task next free call is _ (λ m b.
            room_by p.scenario C m (frames.replied (begins.enqueued (machine_begun m t) to (record { sender = t; id = id; voucher = None })) t call replies.Done) t false _ b.state (b.event false ∙ ap Some (queues m b.state)) refl refl)

        module _ (ds2 : List Desk) (put : ds2 ≡ set_task p.vouchers to (desks.queued (desk p.vouchers to) Q)) (fs2 : List Working) (counted : fs2 ≡ with_begun_of p.frames t)
            (h2 : Entries) (noted : h2.entries ≡ p.history.entries ++ entries.Call t (begun_of p.frames t + 1) words.Send replies.Done ∷ []) (less : h2.spare + 1 ≡ p.history.spare) where
          mid_is : parts_in p.vouchers fs2 ≡ set_task (parts_in p.vouchers p.frames) t (begun_one (part_of C t))
          mid_is = frames_begun p t r task fs2 counted

          long_set : {A : Type 0} (xs : List A) (t : ℕ) (x : A) → length (set_task xs t x) ≡ length xs
          long_set xs t x = as_long xs t x

          to_range : (0 < to) × (to - 1 < length (parts_in p.vouchers fs2))
          to_range =
              let n = range p to r to_task in
              (n.0, subst (λ k. to - 1 < k) (sym (ap length mid_is ∙ long_set (parts_in p.vouchers p.frames) t (begun_one (part_of C t)))) n.1)

          tasks_are : parts_in ds2 fs2 ≡ set_task (set_task (parts_in p.vouchers p.frames) t (begun_one (part_of C t))) to (queued_part (at_task (set_task (parts_in p.vouchers p.frames) t (begun_one (part_of C t))) to idle_part) Q)
          tasks_are = ap (λ ds. parts_in ds fs2) put ∙ (set_desk p.vouchers fs2 to (desks.queued (desk p.vouchers to) Q) to_range.0
              ∙ (ap (λ (x : Part). set_task (parts_in p.vouchers fs2) to (queued_part x Q)) (sym (side_at p.vouchers fs2 to to_range.0 to_range.1))
              ∙ ap (λ ps. set_task ps to (queued_part (at_task ps to idle_part) Q)) mid_is))

          plain_is : (a b : List Part) (d e : List Entry) (i j : ℕ) → a ≡ b → d ≡ e → i ≡ j → record C { tasks = a; history = d; spare = i } ≡ record C { tasks = b; history = e; spare = j }
          plain_is a b d e i j q r s = rw (q, r, s) refl

          less_one : (a b : ℕ) → a + 1 ≡ b → a ≡ b - 1
          less_one a b e = omega (arith, e)

          pub nothing_follows : MayFollow kinds.Begin t p (record p { vouchers = ds2; frames = fs2; history = h2 })
          nothing_follows = may_follow kinds.Begin t p (record p { vouchers = ds2; frames = fs2; history = h2 }) false (queued_first C t to Q call replies.Done) refl
              (plain_is _ _ _ _ _ _ tasks_are (entry_is p t r task next free call is h2 replies.Done noted) (less_one h2.spare p.history.spare less))
              (λ m st. let b = begun p t r task next free call is m st in let a = b.at_rest in let n = range p to r to_task in (
                frames.replied (begins.enqueued (machine_begun m t) to (record { sender = t; id = id; voucher = None })) t call replies.Done,
                b.event false ∙ ap Some (queues m st),
                b.next,
                queued_stands p.scenario C m t a.positive a.inside a.stands a.own a.task call replies.Done (uncounted_here p t r task next free call is refl m.past replies.Done) nothing_room to id n.0 n.1,
              ))

        pub nothing_then : (ds2 : List Desk) → ds2 ≡ set_task p.vouchers to (desks.queued (desk p.vouchers to) Q) → (new : Parts) → new ≡ record p { vouchers = ds2; frames = with_begun_of p.frames t; history = new.history }
            → new.history.entries ≡ p.history.entries ++ entries.Call t (begun_of p.frames t + 1) words.Send replies.Done ∷ [] → new.history.spare + 1 ≡ p.history.spare → MayFollow kinds.Begin t p new
        nothing_then ds2 put new whole noted less = subst (MayFollow kinds.Begin t p) (sym whole) (nothing_follows ds2 put (with_begun_of p.frames t) refl new.history noted less)

      -- A copy.

      -- its name is there
      pub not_named : name ≢ 0 → voucher_of (desk p.vouchers t).names name ≡ None → ⊥
      not_named something none = some_code (sym (refusal_of to name to_task something false (ap is_some none)) ∙ accepted)

      module _ (something : name ≢ 0) (v : Indices) (named : voucher_of (desk p.vouchers t).names name ≡ Some v) where
        named_now : named_by C t name ≡ Some v
        named_now = ap (λ (d : Desk). voucher_of d.names name) (sym (own_desk p t r task)) ∙ named

        some_name : (name == 0) ≡ false
        some_name = unequal name something

        twin_of : (m : Machine) → IsState p.scenario C m → (w : Handles) × (handles_of (tasked m t).names name ≡ Some w) × IsMap p.values v w
        twin_of m st = by (handles_of (tasked m t).names name) (subst (λ o. Optional (IsMap p.values) o (handles_of (tasked m t).names name)) named_now (twins m st))
          where
            by : (o : Option Handles) → Optional (IsMap p.values) (Some v) o → (w : Handles) × (o ≡ Some w) × IsMap p.values v w
            by None e = absurd e
            by (Some w) e = (w, refl, e)

        pub send_copies : (m : Machine) → IsState p.scenario C m → Copies p m t call v (marked false (is_some (index_of keys.Bank v)) false false)
        send_copies m st =
            let z = twin_of m st in
            let s = stands_of p.scenario C m st in
            let n = in_parts p.scenario C m t s (ties_of p.scenario C m st) task in
            let asked : marked false (is_some (index_of keys.Bank v)) false false ≡ key_if keys.Bank z.0.bank = bank_asked p.values (index_of keys.Bank v) z.0.bank (at_key p.values keys.Bank v z.0 z.2) in
            record {
              handles = z.0;
              map = z.2;
              known = own_known m t name z.0 (n.0, (let l = s.shape.long in let i = n.1 in omega (arith, l, i))) z.1;
              begins = send_framed p.scenario false (machine_begun m t) t (store_reply p.scenario m t call) to name id moving z.0 to_task some_name (ap (λ ns. handles_of ns name) (names_stay m t) ∙ z.1)
                  ∙ ap (λ ks. frames.with_frame (machine_begun m t) t (Some (begins.fresh_frame z.0 ks))) (sym asked);
            }

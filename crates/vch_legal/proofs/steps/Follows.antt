-- What it is that an event adds nothing to the history or one entry, and what follows for the store and for other
-- tasks.
use Rattle.std.proofs.Common.{◌≡◌, ◌≢◌, ℕ, ◌+◌, Bool, List, [], ◌∷◌, ◌++◌, refl, true, false, not, arith, sym, ap, ◌∙◌, subst, length, Some, None, Option, Ok, Err, Result}
use Rattle.vch_base.proofs.CallerLemmas.{other_items}
use Rattle.std.specs.Prelude.{if◌then◌else◌, ◌==◌, ℤ}
use Rattle.vch_model.specs.declared.call.Call.{Call}
use Rattle.vch_model.specs.declared.call.Call.TheVariants as calls
use Rattle.vch_model.specs.declared.call.Line.{Line}
use Rattle.vch_model.specs.declared.entry.Entry.{Entry}
use Rattle.vch_model.specs.declared.entry.Entry.TheVariants as entries
use Rattle.vch_model.specs.declared.lists.Scenario.{Scenario}
use Rattle.vch_model.specs.Voucher.{Voucher}
use Rattle.vch_model.specs.Store.{Store, Member, Message, nobody, member, set_member, voucher_of, with_name, name_of, is_full}
use Rattle.vch_model.specs.Eval.{create}
use Rattle.vch_model.specs.Transfer.{before}
use Rattle.vch_model.specs.Lines.{calls_in, phases_in, is_task, line_at}
use Rattle.vch_model.specs.After.{is_want, placed, appended, queued, let_go, sent, taken_first, received, lost, store_after_call, store_after_line, store_after, store_of}
use Rattle.vch_model.specs.Legal.{CanFollow, LegalPast}
use Rattle.vch_machine.specs.State.{Machine, seen}
use Rattle.vch_legal.specs.Tie.{first_in}
use Rattle.vch_legal.proofs.tasks.TaskItems.{set_keeps}

-- an entry of a call of the task, or of a value
abbrev pub EntryOf : ℕ → Entry → Type 0
EntryOf t (entries.Call u n word reply) = u ≡ t
EntryOf t (entries.Made k x) = Unit {0}
EntryOf t (entries.Released e) = Unit {0}
EntryOf t (entries.Gone u name) = u ≡ t
EntryOf t (entries.Lost u) = u ≡ t
EntryOf t entries.Phase = ⊥

-- nothing is added and the store stays, or one entry that may follow is added and the store is the one after it
pub data Follows (sc : Scenario) (t : ℕ) (m n : Machine) : Type 0 where
  Quiet : n.past ≡ m.past → seen n ≡ seen m → Follows sc t m n
  Adds : (e : Entry) → n.past ≡ e ∷ m.past → seen n ≡ store_after sc (length m.past) (seen m) e
      → CanFollow sc m.past (seen m) e → EntryOf t e → Follows sc t m n

pub entry_legal : (sc : Scenario) (m : Machine) (e : Entry) → seen m ≡ store_of sc m.past
    → CanFollow sc m.past (seen m) e → LegalPast sc m.past → LegalPast sc (e ∷ m.past)
entry_legal sc m e s c l = (l, subst (λ (x : Store). CanFollow sc m.past x e) s c)

pub follows_store : (sc : Scenario) (t : ℕ) (m n : Machine) → Follows sc t m n → seen m ≡ store_of sc m.past → seen n
    ≡ store_of sc n.past
follows_store sc t m n (Quiet p s) e = s ∙ (e ∙ ap (store_of sc) (sym p))
follows_store sc t m n (Adds x p s c o) e = s ∙
    (ap (λ y. store_after sc (length m.past) y x) e ∙ ap (store_of sc) (sym p))

pub follows_legal : (sc : Scenario) (t : ℕ) (m n : Machine) → Follows sc t m n → seen m ≡ store_of sc m.past
    → LegalPast sc m.past → LegalPast sc n.past
follows_legal sc t m n (Quiet p s) e l = subst (LegalPast sc) (sym p) l
follows_legal sc t m n (Adds x p s c o) e l = subst (LegalPast sc) (sym p) (entry_legal sc m x e c l)

same_phases : (t : ℕ) (e : Entry) (past : List Entry) → EntryOf t e → phases_in (e ∷ past) ≡ phases_in past
same_phases t (entries.Call u n word reply) past o = refl
same_phases t (entries.Made k x) past o = refl
same_phases t (entries.Released e) past o = refl
same_phases t (entries.Gone u name) past o = refl
same_phases t (entries.Lost u) past o = refl
same_phases t entries.Phase past o = absurd o

pub follows_phases : (sc : Scenario) (t : ℕ) (m n : Machine) → Follows sc t m n → phases_in n.past ≡ phases_in m.past
follows_phases sc t m n (Quiet p s) = ap phases_in p
follows_phases sc t m n (Adds x p s c o) = ap phases_in p ∙ same_phases t x m.past o

others_calls : (t u : ℕ) (e : Entry) (past : List Entry) → u ≢ t → EntryOf t e → calls_in (e ∷ past) u
    ≡ calls_in past u
others_calls t u (entries.Call v n word reply) past apart o = by_test (v == u) refl
  where
    by_test : (b : Bool) → (v == u) ≡ b → calls_in past u + (if b then 1 else 0) ≡ calls_in past u
    by_test true same = absurd (apart (sym (number v u same) ∙ o))
      where
        number : (a b : ℕ) → (a == b) ≡ true → a ≡ b
        number a b e = grind arith
    by_test false same = omega arith
others_calls t u (entries.Made k x) past apart o = refl
others_calls t u (entries.Released e) past apart o = refl
others_calls t u (entries.Gone v name) past apart o = refl
others_calls t u (entries.Lost v) past apart o = refl
others_calls t u entries.Phase past apart o = absurd o

pub follows_calls : (sc : Scenario) (t u : ℕ) (m n : Machine) → u ≢ t → Follows sc t m n → calls_in n.past u
    ≡ calls_in m.past u
follows_calls sc t u m n apart (Quiet p s) = ap (λ past. calls_in past u) p
follows_calls sc t u m n apart (Adds x p s c o) = ap (λ past. calls_in past u) p ∙ others_calls t u x m.past apart o

-- a task keeps its names, and the first message of its queue
pub record MemberKept (x y : Member) : Type 0 where
  pub names : y.names ≡ x.names
  pub first : (v : Voucher) → first_in x.queue ≡ Some v → first_in y.queue ≡ Some v

pub kept_eq : (x y : Member) → y ≡ x → MemberKept x y
kept_eq x y e = record { names = ap (λ z. z.names) e; first = λ v h. ap (λ z. first_in z.queue) e ∙ h }

kept_then : (x y z : Member) → MemberKept x y → MemberKept y z → MemberKept x z
kept_then x y z a b = record { names = b.names ∙ a.names; first = λ v h. b.first v (a.first v h) }

more_first : (queue : List Message) (q : Message) (v : Voucher) → first_in queue ≡ Some v → first_in (queue ++ q ∷ [])
    ≡ Some v
more_first [] q v e = cc
more_first (x ∷ queue) q v e = e

abbrev Kept : Store → Store → ℕ → Type 0
Kept s r u = MemberKept (member s u) (member r u)

kept_self : (s : Store) (u : ℕ) → Kept s s u
kept_self s u = kept_eq (member s u) (member s u) refl

kept_if : (s a b : Store) (u : ℕ) (c : Bool) → Kept s a u → Kept s b u → Kept s (if c then a else b) u
kept_if s a b u true x y = x
kept_if s a b u false x y = y

kept_other : (s : Store) (t u : ℕ) (x : Member) → u ≢ t → Kept s (set_member s t x) u
kept_other s t u x apart = kept_eq (member s u) (member (set_member s t x) u)
    (other_items s.tasks t u x nobody apart)

kept_appended : (s : Store) (to u : ℕ) (q : Message) → Kept s (appended s to q) u
kept_appended s to u q =
    set_keeps (λ y. MemberKept (member s u) y) s.tasks to u (record (member s to) {
      queue =
          (member s to).queue ++ q ∷ [];
    })
    nobody (λ k. kept_then (member s u) (member s to) _ k
    (record { names = refl; first = λ v h. more_first (member s to).queue q v h })) (kept_self s u)

kept_queued : (sc : Scenario) (s : Store) (to u : ℕ) (q : Message) → Kept s (queued sc s to q) u
kept_queued sc s to u q = kept_if s s (appended s to q) u (is_full sc s to) (kept_self s u) (kept_appended s to u q)

kept_sent : (sc : Scenario) (s : Store) (t to u : ℕ) (moving : Bool) (name id : ℕ) (v : Option Voucher) → u ≢ t
    → Kept s (sent sc s t to moving name id v) u
kept_sent sc s t to u moving name id None apart = kept_self s u
kept_sent sc s t to u moving name id (Some v) apart =
    kept_if s s _ u (is_full sc s to) (kept_self s u)
    (kept_if s (let_go mid t name) mid u moving (kept_then (member s u) (member mid u) (member (let_go mid t name) u)
    (kept_appended s to u message) (kept_other mid t u _ apart)) (kept_appended s to u message))
  where
    message : Message
    message = record { sender = t; id = id; voucher = Some (before t v) }

    mid : Store
    mid = appended s to (record { sender = t; id = id; voucher = Some (before t v) })

kept_placed : (s : Store) (t u : ℕ) (r : Result (Option Voucher) ℤ) → u ≢ t → Kept s (placed s t r) u
kept_placed s t u (Ok (Some v)) apart = kept_other s t u (with_name (member s t) v (name_of (member s t).names v))
    apart
kept_placed s t u (Ok None) apart = kept_self s u
kept_placed s t u (Err code) apart = kept_self s u

kept_received : (sc : Scenario) (s : Store) (t u : ℕ) (queue : List Message) → u ≢ t
    → Kept s (received sc s t queue) u
kept_received sc s t u [] apart = kept_self s u
kept_received sc s t u (q ∷ queue) apart = of_voucher q.voucher
  where
    first : Kept s (taken_first s t queue) u
    first = kept_other s t u (record (member s t) { queue = queue }) apart

    of_voucher : (v : Option Voucher) → Kept s (received sc s t (record q { voucher = v } ∷ queue)) u
    of_voucher None = first
    of_voucher (Some v) = kept_then (member s u) (member (taken_first s t queue) u) _ first
        (kept_other (taken_first s t queue) t u _ apart)

kept_call : (sc : Scenario) (s : Store) (t u : ℕ) (call : Call) → u ≢ t
    → Kept s (store_after_call sc s t call) u
kept_call sc s t u (calls.Create bytes) apart =
    kept_placed s t u (create sc.version (voucher_of (member s t).names) t bytes)
    apart
kept_call sc s t u (calls.GiveUp name) apart = kept_other s t u _ apart
kept_call sc s t u (calls.Send to moving name id) apart =
    kept_if s s _ u (not (is_task sc to)) (kept_self s u)
    (kept_if s _ _ u (name == 0) (kept_queued sc s to u (record { sender = t; id = id; voucher = None }))
    (kept_sent sc s t to u moving name id (voucher_of (member s t).names name) apart))
kept_call sc s t u calls.Recv apart = kept_received sc s t u (member s t).queue apart
kept_call sc s t u (calls.Extract name key) apart = kept_self s u
kept_call sc s t u (calls.Recipes name) apart = kept_self s u
kept_call sc s t u (calls.Extern name adding n) apart = kept_self s u
kept_call sc s t u (calls.Charge name n) apart = kept_self s u
kept_call sc s t u calls.Ledger apart = kept_self s u
kept_call sc s t u calls.Assertions apart = kept_self s u
kept_call sc s t u calls.Live apart = kept_self s u
kept_call sc s t u calls.Exit apart = kept_self s u

kept_line : (sc : Scenario) (s : Store) (t u : ℕ) (l : Option (ℕ × Line)) → u ≢ t
    → Kept s (store_after_line sc s t l) u
kept_line sc s t u None apart = kept_self s u
kept_line sc s t u (Some l) apart = kept_call sc s t u l.1.call apart

kept_entry : (sc : Scenario) (c : ℕ) (s : Store) (t u : ℕ) (e : Entry) → u ≢ t → EntryOf t e
    → Kept s (store_after sc c s e) u
kept_entry sc c s t u (entries.Call v n word reply) apart o =
    kept_if s s _ u (is_want reply) (kept_self s u)
    (kept_line sc s v u (line_at sc v n) (λ e. apart (e ∙ o)))
kept_entry sc c s t u (entries.Made k x) apart o = kept_self s u
kept_entry sc c s t u (entries.Released e) apart o = kept_self s u
kept_entry sc c s t u (entries.Gone v name) apart o = kept_other s v u _ (λ e. apart (e ∙ o))
kept_entry sc c s t u (entries.Lost v) apart o = of_queue (member s v).queue
  where
    of_queue : (queue : List Message) → Kept s (lost s v queue) u
    of_queue [] = kept_self s u
    of_queue (q ∷ queue) = kept_other s v u _ (λ e. apart (e ∙ o))
kept_entry sc c s t u entries.Phase apart o = absurd o

-- another task keeps its names and its first message
pub follows_kept : (sc : Scenario) (t u : ℕ) (m n : Machine) → u ≢ t → Follows sc t m n
    → MemberKept (member (seen m) u) (member (seen n) u)
follows_kept sc t u m n apart (Quiet p s) = kept_eq (member (seen m) u) (member (seen n) u) (ap (λ x. member x u) s)
follows_kept sc t u m n apart (Adds x p s c o) =
    kept_then (member (seen m) u) (member (store_after sc (length m.past) (seen m) x) u) (member (seen n) u)
    (kept_entry sc (length m.past) (seen m) t u x apart o) (kept_eq _ _ (ap (λ y. member y u) s))

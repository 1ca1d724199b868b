-- The sums follow the history of the state.
use Rattle.std.proofs.Common.{◌≡◌, ℕ, suc, ◌+◌, ◌-◌, Bool, true, false, List, [], ◌∷◌, ◌++◌, length, reverse, refl, sym, ap, ◌∙◌, subst, arith, Option, Some, None, inl, inr, is_some}
use Rattle.std.specs.Prelude.{◌⊎◌, ◌&&◌, not, nat_lt, if◌then◌else◌, slice_get}
use Rattle.std.proofs.lemmas.List.{length-reverse, reverse-append, reverse-reverse}
use Rattle.vch_base.specs.Keyed.{of_key}
use Rattle.vch_base.specs.Values.{is_default}
use Rattle.vch_base.specs.declared.key.Key.{Key}
use Rattle.vch_base.specs.declared.key.Key.TheVariants as keys
use Rattle.vch_base.specs.declared.value.Value.{Value}
use Rattle.vch_base.specs.declared.value.Value.TheVariants as values
use Rattle.vch_model.specs.declared.call.Call.{Call}
use Rattle.vch_model.specs.declared.call.Call.TheVariants as calls
use Rattle.vch_model.specs.declared.call.Line.{Line}
use Rattle.vch_model.specs.declared.call.Word.{Word}
use Rattle.vch_model.specs.declared.entry.Entry.{Entry}
use Rattle.vch_model.specs.declared.entry.Entry.TheVariants as entries
use Rattle.vch_model.specs.declared.entry.Reply.{Reply}
use Rattle.vch_model.specs.declared.entry.Reply.TheVariants as replies
use Rattle.vch_model.specs.declared.lists.Scenario.{Scenario}
use Rattle.vch_model.specs.Voucher.{Voucher, value_in}
use Rattle.vch_model.specs.Store as store
use Rattle.vch_model.specs.Lines.{line_at}
use Rattle.vch_model.specs.After.{store_of, store_after_line}
use Rattle.vch_model.specs.Legal.{LegalPast}
use Rattle.vch_model.specs.Totals.{named_voucher, with_made, is_done}
use Rattle.vch_machine.specs.Events.{event, phase_event}
use Rattle.vch_machine.specs.Leaving.{made_of}
use Rattle.vch_machine.specs.Naming.{handles_of}
use Rattle.vch_machine.specs.Next.{nth_call, call_in}
use Rattle.vch_machine.specs.State.{Handles, Living, Machine, tasked, valued_option, living_at, value_at, value_of}
use Rattle.vch_legal.specs.Tie.{Ties}
use Rattle.vch_legal.specs.ValueAmounts.{is_counting}
use Rattle.vch_legal.specs.Facts.{Fits}
use Rattle.vch_machine.specs.Events.{all_at_rest}
use Rattle.vch_machine.specs.Frames.{noted}
use Rattle.vch_machine.specs.Schedules.{Move, happens}
use Rattle.vch_model.specs.Lines.{phases_in}
use Rattle.vch_legal.proofs.CallerLemmas.{Steps, MayStep, event_happens, event_keeps, value_at_key, IsExtern, extern_done, charge_done}
use Rattle.vch_sums.specs.Summed.{Summed, IsSummed, IsAt, Follows, FollowsCount, FollowsCharge, accepted, is_passed, is_counting_line}
use Rattle.vch_sums.proofs.CallerLemmas.{passed}
use Rattle.vch_plain.specs.Followed.{Continues, IsNumberOf, FollowsLast, FollowsCall}
use Rattle.vch_plain.proofs.SeenReplies.{named_seen, number_seen}

-- the entry that stands last is the newest one

at_end : (xs : List Entry) (y : Entry) → slice_get (xs ++ y ∷ []) (length xs) ≡ Some y
at_end [] y = refl
at_end (x ∷ xs) y = at_end xs y

pub newest : (history past : List Entry) (e entry : Entry) → reverse history ≡ entry ∷ past → slice_get history (length history - 1) ≡ Some e
    → e ≡ entry
newest history past e entry is there =
    let back : history ≡ reverse past ++ entry ∷ [] = sym (twice history) ∙ (ap reverse is ∙ reverse-append (entry ∷ []) past) in
    let long : length history ≡ suc (length past) = sym (length-reverse history) ∙ ap (λ (xs : List Entry). length xs) is in
    let place : length history - 1 ≡ length (reverse past) = one_less (length history) (length past) (length (reverse past)) long (length-reverse past) in
    same (sym there ∙ (ap (λ (xs : List Entry). slice_get xs (length history - 1)) back
    ∙ (ap (λ i. slice_get (reverse past ++ entry ∷ []) i) place ∙ at_end (reverse past) entry)))
  where
    same : {a b : Entry} → Some a ≡ Some b → a ≡ b
    same g = cc

    one_less : (a b c : ℕ) → a ≡ suc b → c ≡ b → a - 1 ≡ c
    one_less a b c e f = omega (arith, e, f)

    twice : (xs : List Entry) → reverse (reverse xs) ≡ xs
    twice xs = reverse-reverse xs

-- the number of a value that a name has

pub number_of_value : (m : Machine) (t name h number : ℕ) (key : Key) (v : Handles) → handles_of (tasked m t).names name ≡ Some v
    → of_key key v ≡ Some h → number ≡ made_of (living_at m.live (record { key = key; handle = h })) → IsNumberOf m t name key number
number_of_value m t name h number key v named at is sc x ties valued plain =
    of_living (living_at m.live (record { key = key; handle = h })) refl
    (sym (value_at_key m.live key v ∙ ap (value_at m.live key) at)
    ∙ (ap (λ (o : Option Voucher). value_in key o) (ap (valued_option m.live) (sym named) ∙ named_seen m t name) ∙ valued))
  where
    same : {a b : Value} → Some a ≡ Some b → a ≡ b
    same g = cc

    of_living : (o : Option Living) → living_at m.live (record { key = key; handle = h }) ≡ o → value_of o ≡ Some x
        → with_made (store_of sc m.past).live number ≡ Some x
    of_living None f g = cc
    of_living (Some a) f g =
        ap (with_made (store_of sc m.past).live) (is ∙ ap made_of f)
        ∙ (number_seen sc m (record { key = key; handle = h }) a ties.fits ties.same_store f (ap is_default (same g) ∙ plain) ∙ g)

pub number_of_none : (m : Machine) (t name number : ℕ) (key : Key) (v : Handles) → handles_of (tasked m t).names name ≡ Some v
    → of_key key v ≡ None → IsNumberOf m t name key number
number_of_none m t name number key v named at sc x ties valued plain =
    let i : None ≡ Some x = sym (value_at_key m.live key v ∙ ap (value_at m.live key) at)
    ∙ (ap (λ (o : Option Voucher). value_in key o) (ap (valued_option m.live) (sym named) ∙ named_seen m t name) ∙ valued) in cc

pub number_of_no_name : (m : Machine) (t name number : ℕ) (key : Key) → handles_of (tasked m t).names name ≡ None → IsNumberOf m t name key number
number_of_no_name m t name number key named sc x ties valued plain =
    let i : None ≡ Some x = ap (λ (o : Option Voucher). value_in key o) (ap (valued_option m.live) (sym named) ∙ named_seen m t name) ∙ valued in cc

-- an accepted change of a count, and an accepted charge, leave the store

store_still : (sc : Scenario) (past : List Entry) (t n : ℕ) (word : Word) (call : Call) → nth_call sc t n ≡ Some call → is_counting call ≡ true
    → store_of sc (accepted t n word ∷ past) ≡ store_of sc past
store_still sc past t n word call there counting = of_line (line_at sc t n) there
  where
    same : {a b : Call} → Some a ≡ Some b → a ≡ b
    same g = cc

    of_call : (phase u : ℕ) (c : Call) → is_counting c ≡ true → store_after_line sc (store_of sc past) t (Some (phase, record { task = u; call = c })) ≡ store_of sc past
    of_call phase u (calls.Extern name adding k) e = refl
    of_call phase u (calls.Charge name k) e = refl
    of_call phase u (calls.Create bytes) e = cc
    of_call phase u (calls.GiveUp name) e = cc
    of_call phase u (calls.Extract name key) e = cc
    of_call phase u (calls.Recipes name) e = cc
    of_call phase u (calls.Send to moving name id) e = cc
    of_call phase u calls.Recv e = cc
    of_call phase u calls.Ledger e = cc
    of_call phase u calls.Assertions e = cc
    of_call phase u calls.Live e = cc
    of_call phase u calls.Exit e = cc

    of_line : (o : Option (ℕ × Line)) → call_in o ≡ Some call → store_after_line sc (store_of sc past) t o ≡ store_of sc past
    of_line None e = refl
    of_line (Some l) e = of_call l.0 l.1.task l.1.call (ap is_counting (same e) ∙ counting)

module _ (sc : Scenario) (m : Machine) (past : List Entry) (t n : ℕ) (word : Word) (is : m.past ≡ accepted t n word ∷ past) (ties : Ties sc m) where
  legal : LegalPast sc (accepted t n word ∷ past)
  legal = subst (LegalPast sc) is ties.legal

  module _ (call : Call) (there : nth_call sc t n ≡ Some call) (counting : is_counting call ≡ true) where
    same_store : store_of sc m.past ≡ store_of sc past
    same_store = ap (store_of sc) is ∙ store_still sc past t n word call there counting

    is_at : (key : Key) (name number : ℕ) (x : Value) → IsNumberOf m t name key number
        → value_in key (named_voucher (store_of sc past) t name) ≡ Some x → is_default x ≡ false → IsAt sc past key t name number
    is_at key name number x numbered named plain = record {
      value = x;
      named = named;
      there = ap (λ (s : store.Store). with_made s.live number) (sym same_store)
          ∙ numbered sc x ties (ap (λ (s : store.Store). value_in key (named_voucher s t name)) (ties.same_store ∙ same_store) ∙ named) plain;
    }

  pub extern_at : (name k number : ℕ) (adding : Bool) → nth_call sc t n ≡ Some (calls.Extern name adding k) → IsNumberOf m t name keys.Importance number
      → IsAt sc past keys.Importance t name number
  extern_at name k number adding there numbered =
      let done : IsExtern sc past t name k adding = extern_done sc past t n word name k adding there legal in
      is_at (calls.Extern name adding k) there refl keys.Importance name number (values.Chain done.list) numbered done.there refl

  pub charge_at : (name k number : ℕ) → nth_call sc t n ≡ Some (calls.Charge name k) → IsNumberOf m t name keys.Bank number
      → IsAt sc past keys.Bank t name number
  charge_at name k number there numbered =
      elim (charge_done sc past t n word name k there legal) as (λ _. IsAt sc past keys.Bank t name number) [
        | inl own ↦ is_at (calls.Charge name k) there refl keys.Bank name number (values.Task t) numbered own refl
        | inr account ↦ is_at (calls.Charge name k) there refl keys.Bank name number (values.Account account.0 t) numbered account.1 refl
      ]

-- the sums follow an accepted call

pub counted_follows : (m : Machine) (t name k number : ℕ) (adding : Bool) (old new : Summed) → IsNumberOf m t name keys.Importance number
    → FollowsCount number adding k old new → FollowsCall m t (calls.Extern name adding k) old new
counted_follows m t name k number adding old new numbered counts sc n word there past is ties summed =
    subst (λ (xs : List Entry). IsSummed sc xs new) (sym is)
    (counts sc past t n name word there (extern_at sc m past t n word is ties name k number adding there numbered)
    (subst (LegalPast sc) is ties.legal) summed)

pub charged_follows : (m : Machine) (t name k number : ℕ) (old new : Summed) → IsNumberOf m t name keys.Bank number
    → FollowsCharge number t k old new → FollowsCall m t (calls.Charge name k) old new
charged_follows m t name k number old new numbered charges sc n word there past is ties summed =
    subst (λ (xs : List Entry). IsSummed sc xs new) (sym is)
    (charges sc past n name word there (charge_at sc m past t n word is ties name k number there numbered)
    (subst (LegalPast sc) is ties.legal) summed)

-- an entry that changes no sum
pub passed_follows : (sc : Scenario) (m : Machine) (entry : Entry) (sums : Summed) → is_passed sc entry ≡ true → FollowsLast sc m entry sums sums
passed_follows sc m entry sums e past is ties summed =
    subst (λ (xs : List Entry). IsSummed sc xs sums) (sym is)
    (passed sc past entry sums e (subst (LegalPast sc) is ties.legal) summed)

not_counting : (call : Call) → ((name : ℕ) (adding : Bool) (n : ℕ) → call ≡ calls.Extern name adding n → ⊥)
    → ((name n : ℕ) → call ≡ calls.Charge name n → ⊥) → is_counting call ≡ false
not_counting (calls.Extern name adding n) e c = absurd (e name adding n refl)
not_counting (calls.Charge name n) e c = absurd (c name n refl)
not_counting (calls.Create bytes) e c = refl
not_counting (calls.GiveUp name) e c = refl
not_counting (calls.Extract name key) e c = refl
not_counting (calls.Recipes name) e c = refl
not_counting (calls.Send to moving name id) e c = refl
not_counting calls.Recv e c = refl
not_counting calls.Ledger e c = refl
not_counting calls.Assertions e c = refl
not_counting calls.Live e c = refl
not_counting calls.Exit e c = refl

pub other_follows : (m : Machine) (t : ℕ) (call : Call) (sums : Summed)
    → ((name : ℕ) (adding : Bool) (n : ℕ) → call ≡ calls.Extern name adding n → ⊥) → ((name n : ℕ) → call ≡ calls.Charge name n → ⊥)
    → FollowsCall m t call sums sums
other_follows m t call sums e c sc n word there = passed_follows sc m (accepted t n word) sums
    (ap (λ (o : Option Call). not (true && is_counting_line o)) there ∙ ap not (not_counting call e c))

-- a call that has no line, or was not accepted
pub no_line_follows : (sc : Scenario) (m : Machine) (t n : ℕ) (word : Word) (reply : Reply) (sums : Summed) → nth_call sc t n ≡ None
    → FollowsLast sc m (entries.Call t n word reply) sums sums
no_line_follows sc m t n word reply sums none = passed_follows sc m (entries.Call t n word reply) sums
    (ap (λ (o : Option Call). not (is_done reply && is_counting_line o)) none ∙ never (is_done reply))
  where
    never : (b : Bool) → not (b && false) ≡ true
    never true = refl
    never false = refl

not_done : (reply : Reply) → (reply ≡ replies.Done → ⊥) → is_done reply ≡ false
not_done replies.Done e = absurd (e refl)
not_done (replies.Created name) e = refl
not_done (replies.Content bytes) e = refl
not_done (replies.Recipe whole bytes) e = refl
not_done (replies.Received sender id name) e = refl
not_done (replies.Ledger amount) e = refl
not_done (replies.Assertions held out) e = refl
not_done (replies.Live vouchers count) e = refl
not_done (replies.Refused code) e = refl

pub refused_follows : (sc : Scenario) (m : Machine) (t n : ℕ) (word : Word) (reply : Reply) (sums : Summed) → (reply ≡ replies.Done → ⊥)
    → FollowsLast sc m (entries.Call t n word reply) sums sums
refused_follows sc m t n word reply sums e = passed_follows sc m (entries.Call t n word reply) sums
    (ap (λ b. not (b && is_counting_line (nth_call sc t n))) (not_done reply e))

-- a value is made or released
pub made_follows : (sc : Scenario) (m : Machine) (key number : ℕ) (x : Value) (old new : Summed)
    → ((past : List Entry) (k : ℕ) → number ≡ length past + 1 → Follows sc past (entries.Made k x) old new)
    → number ≡ length m.past → FollowsLast sc m (entries.Made key x) old new
made_follows sc m key number x old new made long past is ties summed =
    subst (λ (xs : List Entry). IsSummed sc xs new) (sym is)
    (made past key (long ∙ (ap (λ (xs : List Entry). length xs) is ∙ more (length past))) (subst (LegalPast sc) is ties.legal) summed)
  where
    more : (n : ℕ) → suc n ≡ n + 1
    more n = omega arith

pub released_follows : (sc : Scenario) (m : Machine) (number : ℕ) (old new : Summed)
    → ((other : Scenario) (past : List Entry) → Follows other past (entries.Released number) old new)
    → FollowsLast sc m (entries.Released number) old new
released_follows sc m number old new released past is ties summed =
    subst (λ (xs : List Entry). IsSummed sc xs new) (sym is)
    (released sc past (subst (LegalPast sc) is ties.legal) summed)

pub answered_follows : (sc : Scenario) (m : Machine) (t n : ℕ) (word : Word) (call : Call) (reply : Reply) (old new : Summed)
    → nth_call sc t n ≡ Some call → reply ≡ replies.Done → FollowsCall m t call old new → FollowsLast sc m (entries.Call t n word reply) old new
answered_follows sc m t n word call reply old new there is follows =
    subst (λ (r : Reply). FollowsLast sc m (entries.Call t n word r) old new) (sym is) (follows sc n word there)

-- an entry that is no call, and no value's
pub plain_follows : (sc : Scenario) (m : Machine) (entry : Entry) (sums : Summed)
    → ((t n : ℕ) (word : Word) (reply : Reply) → entry ≡ entries.Call t n word reply → ⊥)
    → ((key : ℕ) (x : Value) → entry ≡ entries.Made key x → ⊥) → ((number : ℕ) → entry ≡ entries.Released number → ⊥)
    → FollowsLast sc m entry sums sums
plain_follows sc m (entries.Call t n word reply) sums a b c = absurd (a t n word reply refl)
plain_follows sc m (entries.Made key x) sums a b c = absurd (b key x refl)
plain_follows sc m (entries.Released number) sums a b c = absurd (c number refl)
plain_follows sc m (entries.Gone t name) sums a b c = passed_follows sc m (entries.Gone t name) sums refl
plain_follows sc m (entries.Lost t) sums a b c = passed_follows sc m (entries.Lost t) sums refl
plain_follows sc m entries.Phase sums a b c = passed_follows sc m entries.Phase sums refl

-- the history has one entry more, or none

pub nothing_new : (sc : Scenario) (past new : List Entry) (had count : ℕ) (sums : Summed) → count ≡ length new → had ≡ length past
    → (count ≡ 0) ⊎ (count ≡ had) → Continues past new → IsSummed sc past sums → IsSummed sc new sums
nothing_new sc past new had count sums is was same (inl e) summed = subst (λ (xs : List Entry). IsSummed sc xs sums) (sym e) summed
nothing_new sc past new had count sums is was same (inr (entry, e)) summed =
    absurd (clash count had (length past) (is ∙ ap (λ (xs : List Entry). length xs) e) was same)
  where
    clash : (a b n : ℕ) → a ≡ suc n → b ≡ n → (a ≡ 0) ⊎ (a ≡ b) → ⊥
    clash a b n p q (inl r) = omega (arith, p, q, r)
    clash a b n p q (inr r) = omega (arith, p, q, r)

pub one_new : (sc : Scenario) (m : Machine) (history past : List Entry) (had : ℕ) (last : Entry) (old new : Summed)
    → reverse history ≡ m.past → slice_get history (length history - 1) ≡ Some last → (length history ≡ had → ⊥) → had ≡ length past
    → FollowsLast sc m last old new → Continues past m.past → Ties sc m → IsSummed sc past old → IsSummed sc m.past new
one_new sc m history past had last old new is there apart was follows (inl e) ties summed =
    absurd (apart (sym (length-reverse history) ∙ (ap (λ (xs : List Entry). length xs) (is ∙ e) ∙ sym was)))
one_new sc m history past had last old new is there apart was follows (inr (entry, e)) ties summed =
    follows past (e ∙ ap (λ (x : Entry). x ∷ past) (sym (newest history past last entry (is ∙ e) there))) ties summed

-- a move of a run adds one entry at most

may_follow : (sc : Scenario) (t : ℕ) (m n : Machine) (o : Option Machine) → o ≡ Some n → Fits sc n → MayStep sc t m o → Steps sc t m n
may_follow sc t m n o e fits h = (subst (MayStep sc t m) e h fits).follows

event_continues : (sc : Scenario) (want : Bool) (t : ℕ) (m n : Machine) → Ties sc m → event sc want m t ≡ Some n → Continues m.past n.past
event_continues sc want t m n ties e =
    of_steps (may_follow sc t m n (event sc want m t) e (event_keeps sc want t m n ties.fits e)
    ((event_happens sc want t m ties).step (ap is_some e)))
  where
    of_steps : Steps sc t m n → Continues m.past n.past
    of_steps (Steps.Quiet p s) = inl p
    of_steps (Steps.Adds entry p s c o) = inr (entry, p)

phase_continues : (sc : Scenario) (m n : Machine) → phase_event sc m ≡ Some n → Continues m.past n.past
unfolding phase_event
phase_continues sc m n e = by_test (all_at_rest sc m && nat_lt (phases_in m.past) (length sc.phases)) e
  where
    same : {x y : Machine} → Some x ≡ Some y → x ≡ y
    same g = cc

    by_test : (b : Bool) → (if b then Some (noted m entries.Phase) else None) ≡ Some n → Continues m.past n.past
    by_test true g = inr (entries.Phase, ap (λ (k : Machine). k.past) (sym (same g)))
    by_test false g = cc

pub move_continues : (sc : Scenario) (m n : Machine) (move : Move) → Ties sc m → happens sc m move ≡ Some n → Continues m.past n.past
move_continues sc m n (Move.Of t want) ties e = event_continues sc want t m n ties e
move_continues sc m n Move.EndPhase ties e = phase_continues sc m n e

-- The facts of the sequential store after every legal history.
use Rattle.std.proofs.Common.{◌≡◌, ℕ, ◌+◌, ◌≤◌, Bool, List, [], ◌∷◌, refl, true, false, arith, sym, ap, ◌∙◌, subst, length, map, Some, None, Option, inl, inr}
use Rattle.std.specs.Prelude.{if◌then◌else◌, ◌==◌}
use Rattle.std.specs.List.{list_any}
use Rattle.vch_base.specs.declared.flags.Flags.{Flags}
use Rattle.vch_base.specs.declared.key.Key.{Key}
use Rattle.vch_base.specs.Keys.{number_of}
use Rattle.vch_base.specs.declared.value.Value.{Value}
use Rattle.vch_model.specs.declared.call.Call.{Call}
use Rattle.vch_model.specs.declared.call.Call.TheVariants as calls
use Rattle.vch_model.specs.declared.call.Line.{Line}
use Rattle.vch_model.specs.declared.call.Word.{Word}
use Rattle.vch_model.specs.declared.entry.Entry.{Entry}
use Rattle.vch_model.specs.declared.entry.Entry.TheVariants as entries
use Rattle.vch_model.specs.declared.entry.Reply.{Reply}
use Rattle.vch_model.specs.declared.lists.Scenario.{Scenario}
use Rattle.vch_model.specs.Voucher.{Voucher}
use Rattle.vch_model.specs.Store.{Store, Named, nobody, member, voucher_of, has_value, is_live}
use Rattle.vch_model.specs.Lines.{line_at, calls_in, phases_in, call_of_phase, current_call}
use Rattle.vch_model.specs.After.{store_of, store_after, store_after_call, store_after_line, gone, lost, is_want}
use Rattle.vch_model.specs.Totals.{named_voucher}
use Rattle.vch_model.specs.Legal.{LegalPast, CanFollow, Answers, IsAnswer, find_made, is_exit, voucher_given}
use Rattle.vch_legal.proofs.facts.Choices.{some_eq, or_left, or_right}
use Rattle.vch_legal.proofs.tasks.TaskItems.{any_at}
use Rattle.vch_legal.proofs.store.StoreKeeps.{Gives, gone_gives, lost_gives, member_has, names_have}
use Rattle.vch_legal.proofs.store.CallGives.{call_gives}
use Rattle.vch_legal.proofs.store.StoreSteps.{StoreFits, call_keeps, made_keeps, released_keeps}

-- after every legal history

answered_keeps : (sc : Scenario) (past : List Entry) (s : Store) (t : ℕ) (call : Call) (reply : Reply) (b : Bool)
    → is_want reply ≡ b → IsAnswer sc past s t call reply → StoreFits sc s
    → StoreFits sc (if b then s else store_after_call sc s t call)
answered_keeps sc past s t call reply true e a h = h
answered_keeps sc past s t call reply false e a h = elim a as (λ _. StoreFits sc (store_after_call sc s t call)) [
  | inl own ↦ call_keeps sc s (store_after_call sc s t call) (voucher_given sc s t call) (call_gives sc s t call)
      own.2 h
  | inr other ↦ elim other as (λ _. StoreFits sc (store_after_call sc s t call)) [
    | inl want ↦ let k : true ≡ false = sym (ap is_want want.0) ∙ e in cc
    | inr leaving ↦ exit_keeps call leaving.0
  ]
]
  where
    exit_keeps : (call : Call) → is_exit call ≡ true → StoreFits sc (store_after_call sc s t call)
    exit_keeps calls.Exit g = h
    exit_keeps (calls.Create bytes) g = cc
    exit_keeps (calls.GiveUp name) g = cc
    exit_keeps (calls.Extract name key) g = cc
    exit_keeps (calls.Recipes name) g = cc
    exit_keeps (calls.Send to moving name id) g = cc
    exit_keeps calls.Recv g = cc
    exit_keeps (calls.Extern name adding n) g = cc
    exit_keeps (calls.Charge name n) g = cc
    exit_keeps calls.Ledger g = cc
    exit_keeps calls.Assertions g = cc
    exit_keeps calls.Live g = cc

-- the line of a call of which the answer is legal
pub answered_line : (sc : Scenario) (past : List Entry) (t n : ℕ) (s : Store) (word : Word) (reply : Reply)
    → n ≡ calls_in past t + 1 → Answers sc past s t (current_call sc past t) word reply
    → (l : ℕ × Line) × (line_at sc t n ≡ Some l) × IsAnswer sc past s t l.1.call reply
answered_line sc past t n s word reply e a = of_line (line_at sc t (calls_in past t + 1)) (ap (line_at sc t) e) a
  where
    of_line : (o : Option (ℕ × Line)) → line_at sc t n ≡ o
        → Answers sc past s t (call_of_phase (phases_in past + 1) o) word reply
        → (l : ℕ × Line) × (line_at sc t n ≡ Some l) × IsAnswer sc past s t l.1.call reply
    of_line None g a = absurd a
    of_line (Some l) g a = by_phase (l.0 == phases_in past + 1) a
      where
        by_phase : (b : Bool) → Answers sc past s t (if b then Some l.1.call else None) word reply
            → (k : ℕ × Line) × (line_at sc t n ≡ Some k) × IsAnswer sc past s t k.1.call reply
        by_phase true a = (l, g, a.1)
        by_phase false a = absurd a

call_entry_keeps : (sc : Scenario) (past : List Entry) (s : Store) (t n : ℕ) (word : Word) (reply : Reply)
    → (l : ℕ × Line) × (line_at sc t n ≡ Some l) × IsAnswer sc past s t l.1.call reply → StoreFits sc s
    → StoreFits sc (if is_want reply then s else store_after_line sc s t (line_at sc t n))
call_entry_keeps sc past s t n word reply (l, g, a) h =
    subst (λ (o : Option (ℕ × Line)). StoreFits sc (if is_want reply then s else store_after_line sc s t o)) (sym g)
    (answered_keeps sc past s t l.1.call reply (is_want reply) refl a h)

-- what an exit gives up leaves facts as they are
leaves_fit : (sc : Scenario) (s o : Store) → Gives None s o → StoreFits sc s → StoreFits sc o
leaves_fit sc s o g h = call_keeps sc s o None g refl h

entry_keeps : (sc : Scenario) (past : List Entry) (s : Store) (count : ℕ) (entry : Entry) → CanFollow sc past s entry
    → StoreFits sc s → StoreFits sc (store_after sc count s entry)
entry_keeps sc past s count (entries.Call t n word reply) a h =
    call_entry_keeps sc past s t n word reply (answered_line sc past t n s word reply a.0 a.1) h
entry_keeps sc past s count (entries.Made k x) a h = made_keeps sc s k (count + 1) x a.0 a.1 a.2 h
entry_keeps sc past s count (entries.Released e) a h = released_keeps sc s e (find_made s.live e) refl a h
entry_keeps sc past s count (entries.Gone t name) a h = leaves_fit sc s (gone s t name) (gone_gives None s t name) h
entry_keeps sc past s count (entries.Lost t) a h =
    leaves_fit sc s (lost s t (member s t).queue) (lost_gives None s t (member s t).queue refl) h
entry_keeps sc past s count entries.Phase a h = h

none_held : (k : Key) (x : Value) (flags : List Flags) → list_any (member_has k x) (map (λ _. nobody) flags) ≡ false
none_held k x [] = refl
none_held k x (f ∷ flags) = none_held k x flags

pub legal_store : (sc : Scenario) (past : List Entry) → LegalPast sc past → StoreFits sc (store_of sc past)
legal_store sc [] h = record {
  good = tt;
  once = λ x plain. none_yet;
  held = λ k x e. let g : true ≡ false = sym e
      ∙ none_held k x sc.flags in cc;
}
  where
    none_yet : 0 ≤ 1
    none_yet = omega arith
legal_store sc (entry ∷ past) h = entry_keeps sc past (store_of sc past) (length past) entry h.1
    (legal_store sc past h.0)

-- a call leaves the live values
pub call_live : (sc : Scenario) (s : Store) (t : ℕ) (line : Option (ℕ × Line)) (b : Bool)
    → (if b then s else store_after_line sc s t line).live ≡ s.live
call_live sc s t line true = refl
call_live sc s t None false = refl
call_live sc s t (Some l) false = (call_gives sc s t l.1.call).live

-- a value of a named voucher is held
named_at : (k : Key) (x : Value) (names : List Named) (name : ℕ) (v : Voucher) → voucher_of names name ≡ Some v
    → has_value k x v ≡ true → names_have k x names ≡ true
named_at k x [] name v e h = cc
named_at k x (n ∷ names) name v e h = by_test (n.name == name) (named_at k x names name v) e
  where
    by_test : (b : Bool) → (voucher_of names name ≡ Some v → has_value k x v ≡ true → names_have k x names ≡ true)
        → (if b then Some n.voucher else voucher_of names name) ≡ Some v → names_have k x (n ∷ names) ≡ true
    by_test true later g = or_left (has_value k x n.voucher) _
        (subst (λ (w : Voucher). has_value k x w ≡ true) (sym (some_eq n.voucher v g)) h)
    by_test false later g = or_right (has_value k x n.voucher) _ (later g h)

pub named_live : (sc : Scenario) (s : Store) (t name : ℕ) (v : Voucher) (k : Key) (x : Value) → StoreFits sc s
    → named_voucher s t name ≡ Some v → has_value k x v ≡ true → is_live s (number_of k) x ≡ true
named_live sc s t name v k x h e g =
    h.held k x (any_at (member_has k x) s.tasks t nobody refl
    (or_left (names_have k x (member s t).names) _ (named_at k x (member s t).names name v e g)))

-- An event that changes only tasks, references of entries and the history keeps all that the parts stand for.
use Rattle.std.proofs.Common.{◌≡◌, ℕ, ◌+◌, ◌≤◌, List, [], ◌∷◌, ◌++◌, refl, arith, sym, ap, ◌∙◌, length, reverse, append-nil, subst, Option, Some, None}
use Rattle.std.specs.List.{sum_by}
use Rattle.std.specs.Prelude.{option_to_list}
use Rattle.std.proofs.lemmas.Grind.{common_steps}
use Rattle.std.proofs.lemmas.List.Sums.{sum_by-cons}
use Rattle.vch_base.specs.declared.key.Key.{Key}
use Rattle.vch_base.specs.declared.key.Key.TheVariants as keys
use Rattle.vch_base.specs.declared.value.Value.{Value}
use Rattle.vch_base.specs.Keyed.{Keyed, of_key}
use Rattle.vch_base.specs.Keys.{every_key}
use Rattle.vch_base.specs.Managers.{Kept, live_at}
use Rattle.vch_base.specs.Tasks.{at_task}
use Rattle.vch_model.specs.declared.entry.Entry.{Entry}
use Rattle.vch_model.specs.declared.lists.Scenario.{Scenario}
use Rattle.vch_model.specs.Lines.{phases_in}
use Rattle.vch_model.specs.Totals.{ledger}
use Rattle.vch_machine.specs.State.{Machine}
use Rattle.vch_legal.specs.ValueAmounts.{amount_of}
use Rattle.vch_frame.specs.declared.tally.Tally.{Tally}
use Rattle.vch_values.specs.Parts.{KeyParts, asked_in}
use Rattle.vch_parts.specs.Plain.{Plain}
use Rattle.vch_parts.specs.Stands.{StandsFor, KeyStands}
use Rattle.vch_bounds.specs.Rooms.{room_of}
use Rattle.vch_moves.specs.Kept.{Moved, StillKey, IsQuiet}

sum_same : (f g : Key → ℕ) → ((k : Key) → f k ≡ g k) → (ks : List Key) → sum_by f ks ≡ sum_by g ks
sum_same f g e [] = refl
sum_same f g e (k ∷ ks) = sum_by-cons f k ks ∙ (let a : f k ≡ g k = e k in let b : sum_by f ks ≡ sum_by g ks = sum_same f g e ks in rw (a, b) refl) ∙ sym (sum_by-cons g k ks)

-- the questions are those of the managers
pub asked_stays : (x y : Keyed KeyParts) → ((k : Key) → (of_key k y).kept ≡ (of_key k x).kept) → asked_in y ≡ asked_in x
asked_stays x y e = sum_same (λ k. (of_key k y).kept.asked) (λ k. (of_key k x).kept.asked) (λ k. ap (λ (a : Kept). a.asked) (e k)) every_key

-- what a history adds up to, with one entry more that adds up to nothing
record SamePast (sc : Scenario) (old new : List Entry) : Type 0 where
  amounts : (x : Value) → amount_of sc new x ≡ amount_of sc old x
  ledgers : (t : ℕ) → ledger sc new t ≡ ledger sc old t
  phases : phases_in new ≡ phases_in old
  room : room_of sc new ≡ room_of sc old

same_past : (sc : Scenario) (o : Option Entry) (past : List Entry) → IsQuiet sc past o → SamePast sc past (option_to_list o ++ past)
same_past sc None past q = record { amounts = λ x. refl; ledgers = λ t. refl; phases = refl; room = refl }
same_past sc (Some e) past q = record { amounts = q.uncounted.amounts; ledgers = q.uncounted.ledgers; phases = q.phases; room = rw q.made refl }

reversed : (o : Option Entry) (past : List Entry) → reverse past ++ option_to_list o ≡ reverse (option_to_list o ++ past)
reversed None past = simp append-nil
reversed (Some e) past = sym (one_behind e past)
  where
    one_behind : (x : Entry) (xs : List Entry) → reverse (x ∷ xs) ≡ reverse xs ++ x ∷ []
    one_behind x xs = grind (arith, common_steps)

module _ (sc : Scenario) (o : Option Entry) (c d : Plain) (m n : Machine) (s : StandsFor sc c m) (moved : Moved sc o c d m n) where
  past_same : SamePast sc m.past n.past
  past_same = subst (SamePast sc m.past) (sym moved.notes.past) (same_past sc o m.past moved.notes.quiet)

  key_still : (k : Key) → KeyStands sc k d n
  key_still k = by (moved.keyed k) (s.keyed k)
    where
      by : StillKey k c d m n → KeyStands sc k c m → KeyStands sc k d n
      by z w = record {
        living = λ h. rw (z.kept, z.numbers, moved.live) (w.living h);
        free = rw (z.kept, moved.pools) w.free;
        used = rw (z.kept, moved.pools) w.used;
        rules = rw z.kept w.rules;
        dues = λ h l e. w.dues h l (subst (λ (a : Kept). live_at a.slots h ≡ Some l) z.kept e) ∙ sym (past_same.amounts l.value);
        counts = z.counts;
        made = λ i. rw (z.made i, moved.tally) (w.made i);
      }

  room_then : room_of sc n.past ≤ length n.past + d.spare
  room_then =
      let a : room_of sc n.past ≡ room_of sc m.past = past_same.room in
      let b : length n.past ≡ length (option_to_list o) + length m.past = ap length moved.notes.past ∙ length_both (option_to_list o) m.past in
      let e : c.spare ≡ d.spare + length (option_to_list o) = moved.notes.spare in
      let l : room_of sc m.past ≤ length m.past + c.spare = s.room in
      rw a (more (room_of sc m.past) (length m.past) c.spare d.spare (length (option_to_list o)) (length n.past) l e b)
    where
      length_both : (xs ys : List Entry) → length (xs ++ ys) ≡ length xs + length ys
      length_both [] ys = omega arith
      length_both (x ∷ xs) ys = let e : length (xs ++ ys) ≡ length xs + length ys = length_both xs ys in omega (arith, e)

      more : (r p c_ d_ one p2 : ℕ) → r ≤ p + c_ → c_ ≡ d_ + one → p2 ≡ one + p → r ≤ p2 + d_
      more r p c_ d_ one p2 l e b = omega (arith, l, e, b)

  pub moved_stands : StandsFor sc d n
  moved_stands = record {
    keyed = key_still;
    ledgers = record {
      long = ap (λ (a : Kept). length a.ledgers) (moved.keyed keys.Bank).kept ∙ s.ledgers.long;
      each = λ t e. ap (λ (a : Kept). at_task a.ledgers t 0) (moved.keyed keys.Bank).kept ∙ s.ledgers.each t e ∙ sym (past_same.ledgers t);
    };
    shape = moved.shape;
    history = moved.notes.history ∙ ap (λ xs. xs ++ option_to_list o) s.history ∙ reversed o m.past ∙ sym (ap reverse moved.notes.past);
    phase = moved.phase ∙ s.phase ∙ sym past_same.phases;
    tally = rw (moved.core_tally, moved.tally) s.tally;
    asked = ap (λ (a : Tally). a.asks) moved.core_tally ∙ s.asked ∙ sym (asked_stays c.keyed d.keyed (λ k. (moved.keyed k).kept));
    room = room_then;
  }

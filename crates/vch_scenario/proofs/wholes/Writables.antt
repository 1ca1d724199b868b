-- A scenario that has a text is writable.
use Rattle.std.proofs.Common.{ℕ, List, [], ◌∷◌, ◌++◌, sym, subst, arith, inl, inr}
use Rattle.std.specs.List.{AllByRecursion}
use Rattle.hex.specs.Hex.{IsBytes}
use Rattle.hex.proofs.HexLemmas.{decode_of-ok}
use Rattle.vch_model.specs.declared.call.Call.{Call}
use Rattle.vch_model.specs.declared.call.Call.TheVariants as calls
use Rattle.vch_model.specs.declared.call.Line.{Line}
use Rattle.vch_model.specs.declared.lists.Scenario.{Scenario}
use Rattle.vch_model.specs.TextLines.{split_of}
use Rattle.vch_model.specs.Grammar.{IsHex, IsLine, Item, Calls, End}
use Rattle.vch_model.specs.Scenarios.{task_items, line_items, phase_items, items_of, AreLines, IsScenario}
use Rattle.vch_model.specs.Canonical.{HasBytes, IsWritable}

no_bytes : IsBytes []
no_bytes i = omega arith

hex_bytes : (w bytes : List ℕ) → IsHex w bytes → IsBytes bytes
hex_bytes w bytes h = elim h [ inl p ↦ subst (λ (x : List ℕ). IsBytes x) (sym p.1) no_bytes | inr q ↦ (decode_of-ok w bytes q.1).3 ]

abbrev ItemBytes : Item → Type 0
ItemBytes (Calls l) = HasBytes l.call
ItemBytes i = Unit {0}

call_bytes : (c : Call) (line : List ℕ) (t : ℕ) → IsLine line (Calls (record { task = t; call = c })) → HasBytes c
call_bytes (calls.Create bytes) line t h = let g = h.4 in let k = g.4 in hex_bytes k.0 bytes k.3
call_bytes c line t h = tt

line_bytes : (i : Item) (line : List ℕ) → IsLine line i → ItemBytes i
line_bytes (Calls l) line h = call_bytes l.call line l.task h
line_bytes i line h = tt

abbrev AllBytes : List Item → Type 0
AllBytes items = AllByRecursion (λ i. ItemBytes i) items

all_bytes : (lines : List (List ℕ)) (items : List Item) → AreLines lines items → AllBytes items
all_bytes [] [] h = tt
all_bytes [] (i ∷ items) h = absurd h
all_bytes (l ∷ lines) [] h = absurd h
all_bytes (l ∷ lines) (i ∷ items) h =
    elim h [ inl p ↦ all_bytes lines (i ∷ items) p.1 | inr s ↦ (line_bytes i l s.0, all_bytes lines items s.1) ]

first_part : (xs ys : List Item) → AllBytes (xs ++ ys) → AllBytes xs × AllBytes ys
first_part [] ys h = (tt, h)
first_part (x ∷ xs) ys h = let r = first_part xs ys h.1 in ((h.0, r.0), r.1)

lines_bytes : (ls : List Line) → AllBytes (line_items ls) → AllByRecursion (λ l. HasBytes l.call) ls
lines_bytes [] h = tt
lines_bytes (l ∷ ls) h = (h.0, lines_bytes ls h.1)

phases_bytes : (ps : List (List Line)) → AllBytes (phase_items ps) → AllByRecursion (λ p. AllByRecursion (λ l. HasBytes l.call) p) ps
phases_bytes [] h = tt
phases_bytes (p ∷ ps) h = let r = first_part (line_items p) (phase_items ps) h.1 in (lines_bytes p r.0, phases_bytes ps r.1)

pub scenario_writable : (text : List ℕ) (sc : Scenario) → IsScenario text sc → IsWritable sc
scenario_writable text sc h =
    let lines = h.1 in
    let all = all_bytes (split_of text).0 (items_of sc lines.0) lines.2 in
    let a = first_part (task_items 1 sc.flags lines.0) (phase_items sc.phases ++ End ∷ []) all.1.1 in
    let b = first_part (phase_items sc.phases) (End ∷ []) a.1 in
    record { limited = h.2; bytes = phases_bytes sc.phases b.0 }

-- The canonical text is one of the scenario.
use Rattle.std.proofs.Common.{◌≡◌, ℕ, ◌+◌, ◌^◌, ◌<◌, ◌≤◌, ◌⊎◌, Bool, true, false, cond, eqb, List, [], ◌∷◌, ◌++◌, length, map, Option, Some, None, refl, sym, ap, subst, ◌∙◌, arith, inl, inr, append_assoc, codes}
use Rattle.std.specs.List.{AllByRecursion}
use Rattle.hex.specs.Hex.{IsBytes}
use Rattle.vch_text.proofs.CallerLemmas.{decimal_numeral, IsPlain, IsLow, plain_word, above_plain, decimal_plain, hex_plain, hex_spelled, low_append, split_line}
use Rattle.vch_model.specs.Text.{word_text}
use Rattle.vch_model.specs.declared.call.Call.{Call}
use Rattle.vch_model.specs.declared.call.Call.TheVariants as calls
use Rattle.vch_model.specs.declared.call.Line.{Line}
use Rattle.vch_model.specs.declared.lists.Scenario.{Scenario}
use Rattle.vch_base.specs.declared.flags.Flags.{Flags}
use Rattle.vch_model.specs.Grammar.{top, Piece, Text, Number, Digits, Spells, AreSpelled, IsSmall, behind_word, flag_pieces, queue_pieces, Item, pieces, IsLine, Title, Tasks, Task, Phase, Calls, End}
use Rattle.vch_model.specs.TextLines.{split_of, with_line_before}
use Rattle.vch_model.specs.Words.{word_of}
use Rattle.vch_model.specs.Scenarios.{MayWrite, MayWriteAll, task_items, line_items, phase_items, items_of, AreLines, IsQueueOf, IsIn, IsScenario}
use Rattle.vch_base.specs.declared.limits.TheConstants.{USUAL_QUEUE, MOST_TASKS}
use Rattle.std.proofs.lemmas.Grind.{common_steps}
use Rattle.vch_model.specs.Canonical.{piece_text, spelled_text, joined_text, item_text, items_text, shown_queue, Canon, HasBytes, IsWritable}

-- ---- pieces

abbrev pub IsGood : Piece → Type 0
IsGood (Text t) = IsPlain t
IsGood (Number n) = n < 10 ^ 64
IsGood (Digits bytes) = IsBytes bytes

pub piece_plain : (p : Piece) → IsGood p → IsPlain (piece_text p)
piece_plain (Text t) h = h
piece_plain (Number n) h = decimal_plain n h
piece_plain (Digits bytes) h = hex_plain bytes h

pub piece_spelled : (p : Piece) → IsGood p → Spells (piece_text p) p
piece_spelled (Text t) h = refl
piece_spelled (Number n) h = decimal_numeral n h
piece_spelled (Digits bytes) h = hex_spelled bytes h

pub pieces_spelled : (ps : List Piece) → AllByRecursion (λ p. IsGood p) ps → AreSpelled (spelled_text ps) ps
pieces_spelled [] h = refl
pieces_spelled (p ∷ ps) h =
    (piece_text p, spelled_text ps, record { parts = refl; word = plain_word (piece_text p) (piece_plain p h.0) }, piece_spelled p h.0, pieces_spelled ps h.1)

-- ---- lines

spelled_low : (ps : List Piece) → AllByRecursion (λ p. IsGood p) ps → IsLow (spelled_text ps)
spelled_low [] h = tt
spelled_low (p ∷ ps) h = (omega arith, low_append (piece_text p) (spelled_text ps) (piece_plain p h.0) (spelled_low ps h.1))

joined_low : (ps : List Piece) → AllByRecursion (λ p. IsGood p) ps → IsLow (joined_text ps)
joined_low [] h = tt
joined_low (p ∷ ps) h = low_append (piece_text p) (spelled_text ps) (piece_plain p h.0) (spelled_low ps h.1)

abbrev pub IsGoodItem : Item → Type 0
IsGoodItem i = AllByRecursion (λ p. IsGood p) (pieces i)

-- the lines of the items
abbrev pub texts : List Item → List (List ℕ)
texts [] = []
texts (i ∷ items) = item_text i ∷ texts items

split_items : (items : List Item) → AllByRecursion (λ i. IsGoodItem i) items → split_of (items_text items) ≡ (texts items, [])
unfolding split_of
split_items [] h = refl
split_items (i ∷ items) h =
    ap split_of (append_assoc (item_text i) (10 ∷ []) (items_text items)) ∙ split_line (item_text i) (items_text items) (joined_low (pieces i) h.0) ∙ ap (λ (p : List (List ℕ) × List ℕ). with_line_before (item_text i) p) (split_items items h.1)

item_spelled : (i : Item) → IsGoodItem i → IsLine (item_text i) i
item_spelled (Title v) h = pieces_spelled (pieces (Title v)) h
item_spelled (Tasks n) h = pieces_spelled (pieces (Tasks n)) h
item_spelled (Task t f queue) h = pieces_spelled (pieces (Task t f queue)) h
item_spelled Phase h = pieces_spelled (pieces Phase) h
item_spelled (Calls l) h = pieces_spelled (pieces (Calls l)) h
item_spelled End h = pieces_spelled (pieces End) h

items_spelled : (items : List Item) → AllByRecursion (λ i. IsGoodItem i) items → AreLines (texts items) items
items_spelled [] h = tt
items_spelled (i ∷ items) h = inr (item_spelled i h.0, items_spelled items h.1)

-- ---- the items of a scenario that has a text

wide : (n : ℕ) → n < top → n < 10 ^ 64
wide n lt = omega arith

abbrev AllGood : List Piece → Type 0
AllGood ps = AllByRecursion (λ p. IsGood p) ps

word_good : (c : Call) → IsPlain (word_text (word_of c))
word_good (calls.Create bytes) = above_plain (codes "create") refl
word_good (calls.GiveUp name) = above_plain (codes "drop") refl
word_good (calls.Extract name key) = above_plain (codes "extract") refl
word_good (calls.Recipes name) = above_plain (codes "recipes") refl
word_good (calls.Send to moving name id) = above_plain (codes "send") refl
word_good calls.Recv = above_plain (codes "recv") refl
word_good (calls.Extern name adding n) = above_plain (codes "extern") refl
word_good (calls.Charge name n) = above_plain (codes "charge") refl
word_good calls.Ledger = above_plain (codes "ledger") refl
word_good calls.Assertions = above_plain (codes "assertions") refl
word_good calls.Live = above_plain (codes "live") refl
word_good calls.Exit = above_plain (codes "exit") refl

behind_good : (c : Call) → IsSmall c → HasBytes c → AllGood (behind_word c)
behind_good (calls.Create bytes) s b = (b, tt)
behind_good (calls.GiveUp name) s b = (wide name s, tt)
behind_good (calls.Extract name key) s b = (wide name s.0, (wide key s.1, tt))
behind_good (calls.Recipes name) s b = (wide name s, tt)
behind_good (calls.Send to true name id) s b = (wide to s.0, (above_plain (codes "move") refl, (wide name s.1, (wide id s.2, tt))))
behind_good (calls.Send to false name id) s b = (wide to s.0, (above_plain (codes "copy") refl, (wide name s.1, (wide id s.2, tt))))
behind_good calls.Recv s b = tt
behind_good (calls.Extern name true n) s b = (wide name s.0, (above_plain (codes "add") refl, (wide n s.1, tt)))
behind_good (calls.Extern name false n) s b = (wide name s.0, (above_plain (codes "drop") refl, (wide n s.1, tt)))
behind_good (calls.Charge name n) s b = (wide name s.0, (wide n s.1, tt))
behind_good calls.Ledger s b = tt
behind_good calls.Assertions s b = tt
behind_good calls.Live s b = tt
behind_good calls.Exit s b = tt

flags_good : (d r : Bool) (ps : List Piece) → AllGood ps → AllGood (flag_pieces d (codes "donor") (flag_pieces r (codes "receiver") ps))
flags_good true true ps h = (above_plain (codes "donor") refl, (above_plain (codes "receiver") refl, h))
flags_good true false ps h = (above_plain (codes "donor") refl, h)
flags_good false true ps h = (above_plain (codes "receiver") refl, h)
flags_good false false ps h = h

queue_good : (b : Bool) (limit : ℕ) → limit < 10 ^ 64 → AllGood (queue_pieces (cond b None (Some limit)))
queue_good true limit lt = tt
queue_good false limit lt = (above_plain (codes "queue") refl, (lt, tt))

-- ---- the limits that are written

shown_by : (v limit : ℕ) (b : Bool) → eqb limit USUAL_QUEUE ≡ b → IsQueueOf v limit → MayWrite v (cond b None (Some limit)) limit
shown_by v limit true e h = grind (arith, common_steps)
shown_by v limit false e h = elim h.2 [ inl two ↦ (two, refl) | inr usual ↦ let yes : eqb limit USUAL_QUEUE ≡ true = ap (λ (n : ℕ). eqb n USUAL_QUEUE) usual in absurd cc ]

shown_written : (v : ℕ) (limits : List ℕ) → AllByRecursion (IsQueueOf v) limits → MayWriteAll v (map shown_queue limits) limits
shown_written v [] h = tt
shown_written v (l ∷ ls) h = (shown_by v l (eqb l USUAL_QUEUE) refl h.0, shown_written v ls h.1)

abbrev AllItems : List Item → Type 0
AllItems items = AllByRecursion (λ i. IsGoodItem i) items

all_append : (xs ys : List Item) → AllItems xs → AllItems ys → AllItems (xs ++ ys)
all_append [] ys a b = b
all_append (x ∷ xs) ys a b = (a.0, all_append xs ys a.1 b)

tasks_good : (v t : ℕ) (fs : List Flags) (limits : List ℕ) → t + length fs < 1000 → AllByRecursion (IsQueueOf v) limits → AllItems (task_items t fs (map shown_queue limits))
tasks_good v t [] limits lt h = tt
tasks_good v t (f ∷ fs) [] lt h = ((above_plain (codes "task") refl, (omega arith, flags_good f.donor f.receiver [] tt)), tasks_good v (t + 1) fs [] (omega arith) tt)
tasks_good v t (f ∷ fs) (l ∷ ls) lt h =
    let few = h.0.1 in
    ((above_plain (codes "task") refl, (omega arith, flags_good f.donor f.receiver _ (queue_good (eqb l USUAL_QUEUE) l (omega arith)))), tasks_good v (t + 1) fs ls (omega arith) h.1)

lines_good : (v tasks : ℕ) (ls : List Line) → tasks ≤ MOST_TASKS → AllByRecursion (λ l. IsIn v tasks l) ls → AllByRecursion (λ l. HasBytes l.call) ls → AllItems (line_items ls)
lines_good v tasks [] few a b = tt
lines_good v tasks (l ∷ ls) few a b =
    let low = a.0.1 in
    ((omega arith, (word_good l.call, behind_good l.call a.0.2 b.0)), lines_good v tasks ls few a.1 b.1)

phases_good : (v tasks : ℕ) (ps : List (List Line)) → tasks ≤ MOST_TASKS → AllByRecursion (λ p. AllByRecursion (λ l. IsIn v tasks l) p) ps → AllByRecursion (λ p. AllByRecursion (λ l. HasBytes l.call) p) ps → AllItems (phase_items ps)
phases_good v tasks [] few a b = tt
phases_good v tasks (p ∷ ps) few a b =
    ((above_plain (codes "phase") refl, tt), all_append (line_items p) (phase_items ps) (lines_good v tasks p few a.0 b.0) (phases_good v tasks ps few a.1 b.1))

version_wide : (v : ℕ) → (v ≡ 1) ⊎ (v ≡ 2) → v < 10 ^ 64
version_wide v h = elim h [ inl e ↦ omega arith | inr e ↦ omega arith ]

-- what is written of the queues in the canonical text
abbrev shown : Scenario → List (Option ℕ)
shown sc = map shown_queue sc.queues

items_good : (sc : Scenario) → IsWritable sc → AllItems (items_of sc (shown sc))
items_good sc h =
    let few = h.limited.tasks in
    let small : 1 + length sc.flags < 1000 = omega arith in (
      (above_plain (codes "vouch") refl, (decimal_plain sc.version (version_wide sc.version h.limited.version), tt)),
      (
        (above_plain (codes "tasks") refl, (omega arith, tt)),
        all_append (task_items 1 sc.flags (shown sc)) (phase_items sc.phases ++ End ∷ []) (tasks_good sc.version 1 sc.flags sc.queues small h.limited.limits)
            (all_append (phase_items sc.phases) (End ∷ []) (phases_good sc.version (length sc.flags) sc.phases few h.limited.lines h.bytes) ((above_plain (codes "end") refl, tt), tt)),
      ),
    )

-- what is written is a text of the scenario
pub canon_scenario : (sc : Scenario) → IsWritable sc → IsScenario (Canon sc) sc
unfolding Canon
canon_scenario sc h =
    let items = items_of sc (shown sc) in
    let good = items_good sc h in
    let split = split_items items good in
    let spelled : AreLines (split_of (items_text items)).0 items = subst (λ (x : List (List ℕ)). AreLines x items) (sym (ap (λ (p : List (List ℕ) × List ℕ). p.0) split)) (items_spelled items good) in
    (ap (λ (p : List (List ℕ) × List ℕ). p.1) split, (shown sc, shown_written sc.version sc.queues h.limited.limits, spelled), h.limited)

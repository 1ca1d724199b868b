-- Each line of a report is read, and has no line feed.
use Rattle.std.proofs.Common.{◌≡◌, inl, inr, ℕ, ◌^◌, ◌<◌, true, List, [], ◌∷◌, ◌++◌, Some, refl, sym, subst, ◌∙◌, arith, codes, append-nil}
use Rattle.vch_model.specs.declared.entry.Entry.{Entry}
use Rattle.vch_model.specs.declared.entry.Entry.TheVariants as entries
use Rattle.vch_model.specs.declared.total.Total.{Total}
use Rattle.vch_text.specs.Words.{is_word, word_at}
use Rattle.std.specs.Fmt.{decimal, digits}
use Rattle.vch_text.proofs.CallerLemmas.{Follows, front_again, end_again, IsPlain, above, above_plain, decimal_plain, plain_word, IsLow, low_append}
use Rattle.vch_report.specs.declared.item.Item.{Item}
use Rattle.vch_report.specs.declared.item.Item.TheVariants as items
use Rattle.vch_report.specs.Values.{made_of}
use Rattle.vch_report.specs.Replies.{call_of}
use Rattle.vch_model.specs.WellFormed.{IsNumber, IsTotal}
use Rattle.vch_report.specs.WellFormed.{IsVersion}
use Rattle.vch_report.specs.Items.{item_text}
use Rattle.vch_report.specs.Lines.{released_of, release_of, gone_of, lost_of, phase_of, version_of, title_of, last_of, total_of, counts_of, call_item, made_item, small_item, item_by, item_of}
use Rattle.vch_report.proofs.words.LineWords.{said, num, no_more, a_space, said_again, low_said, low_word, low_num, below_at_again, ordinal_at_again, after_again}
use Rattle.vch_report.proofs.items.MadeLines.{made_again}
use Rattle.vch_report.proofs.items.ReplyTold.{call_rest, call_text}
use Rattle.vch_report.proofs.items.ReplyLines.{call_again, call_low}
use Rattle.vch_report.proofs.items.ItemTold.{IsItem, total_line, counts_line, released_line, gone_line, lost_line}

-- ---- what is so is read

first_word : (w rest : List ℕ) → above w ≡ true → Follows rest → item_of (w ++ rest) ≡ item_by w rest
unfolding item_of
first_word w rest h f = rw (front_again w rest (plain_word w (above_plain w h)) f) refl

call_line_again : (rest : List ℕ) (e : Entry) → Follows rest → call_of rest ≡ Some e
    → item_of (codes "call" ++ rest) ≡ Some (items.Step e)
unfolding item_by is_word call_item
call_line_again rest e f h = first_word (codes "call") rest refl f ∙ rw h refl

made_line_again : (rest : List ℕ) (e : Entry) → Follows rest → made_of rest ≡ Some e
    → item_of (codes "made" ++ rest) ≡ Some (items.Step e)
unfolding item_by is_word made_item
made_line_again rest e f h = first_word (codes "made") rest refl f ∙ rw h refl

released_again : (e : ℕ) → IsNumber e → item_of (codes "released" ++ num e []) ≡ Some (items.Step (entries.Released e))
unfolding item_by small_item is_word release_of released_of
released_again e h = first_word (codes "released") (num e []) refl (a_space _)
    ∙ rw (ordinal_at_again e [] h no_more, end_again [] refl) refl

phase_again : item_of (codes "phase" ++ []) ≡ Some (items.Step entries.Phase)
unfolding item_by small_item is_word phase_of
phase_again = first_word (codes "phase") [] refl no_more ∙ rw (end_again [] refl) refl

gone_again : (t name : ℕ) → IsNumber t → IsNumber name → item_of (codes "gone" ++ num t (num name [])) ≡ Some (items.Step (entries.Gone t name))
unfolding item_by small_item is_word gone_of
gone_again t name h g = first_word (codes "gone") (num t (num name [])) refl (a_space _)
    ∙ rw (ordinal_at_again t (num name []) h (a_space _), ordinal_at_again name [] g no_more, end_again [] refl) refl

lost_again : (t : ℕ) → IsNumber t → item_of (codes "lost" ++ num t []) ≡ Some (items.Step (entries.Lost t))
unfolding item_by small_item is_word lost_of
lost_again t h = first_word (codes "lost") (num t []) refl (a_space _)
    ∙ rw (ordinal_at_again t [] h no_more, end_again [] refl) refl

version_again : (v : ℕ) → IsVersion v → version_of (decimal v) ≡ Some v
unfolding version_of is_word digits
version_again v h =
    elim h [
      | inl e ↦ subst (λ (n : ℕ). version_of (decimal n) ≡ Some n) (sym e) refl
      | inr e ↦ subst (λ (n : ℕ). version_of (decimal n) ≡ Some n) (sym e) refl
    ]

version_plain : (v : ℕ) → IsVersion v → IsPlain (decimal v)
version_plain v h = decimal_plain v (elim h [ inl e ↦ omega arith | inr e ↦ omega arith ])

title_again : (v : ℕ) → IsVersion v → item_of (codes "report" ++ (32 ∷ decimal v)) ≡ Some (items.Title v)
unfolding item_by small_item is_word title_of
title_again v h =
    let word : word_at (32 ∷ decimal v) ≡ Some (decimal v, []) =
    subst (λ (l : List ℕ). word_at (32 ∷ l) ≡ Some (decimal v, [])) (append-nil (decimal v)) (said_again (decimal v) [] (version_plain v h) no_more) in
    first_word (codes "report") (32 ∷ decimal v) refl (a_space _) ∙ rw (word, end_again [] refl, version_again v h) refl

last_again : item_of (codes "end" ++ []) ≡ Some items.End
unfolding item_by small_item is_word last_of
last_again = first_word (codes "end") [] refl no_more ∙ rw (end_again [] refl) refl

counts_again : (v w : ℕ) → v < 2 ^ 64 → w < 2 ^ 64
    → item_of (codes "vouchers" ++ num v (said (codes "values") (num w []))) ≡ Some (items.Counts v w)
unfolding item_by small_item is_word counts_of
counts_again v w a b =
    first_word (codes "vouchers") (num v (said (codes "values") (num w []))) refl (a_space _)
    ∙ rw (
      below_at_again (2 ^ 64) v (said (codes "values") (num w [])) (omega arith) a (a_space _),
      after_again (codes "values") (num w []) refl (a_space _),
      below_at_again (2 ^ 64) w [] (omega arith) b no_more,
      end_again [] refl,
    ) refl

total_again : (t : ℕ) (x : Total) → IsNumber t → IsTotal x
    → item_of (codes "task" ++ num t (said (codes "ledger") (num x.ledger (said (codes "held") (num x.held (said
    (codes "out") (num x.out []))))))) ≡ Some (items.Task t x)
unfolding item_by small_item is_word total_of
total_again t x h g =
    let c = num x.out [] in
    let b = num x.held (said (codes "out") c) in
    let a = num x.ledger (said (codes "held") b) in
    first_word (codes "task") (num t (said (codes "ledger") a)) refl (a_space _)
    ∙ rw (
      ordinal_at_again t (said (codes "ledger") a) h (a_space _),
      after_again (codes "ledger") a refl (a_space _),
      below_at_again (2 ^ 128) x.ledger (said (codes "held") b) (omega arith) g.0 (a_space _),
      after_again (codes "held") b refl (a_space _),
      below_at_again (2 ^ 128) x.held (said (codes "out") c) (omega arith) g.1 (a_space _),
      after_again (codes "out") c refl (a_space _),
      below_at_again (2 ^ 128) x.out [] (omega arith) g.2 no_more,
      end_again [] refl,
    ) refl

pub item_again : (i : Item) → IsItem i → item_of (item_text i) ≡ Some i
item_again (items.Title v) h = title_again v h
item_again (items.Step (entries.Call t n v r)) h = rw (call_text t n v r) (call_line_again (call_rest t n v r)
    (entries.Call t n v r) (a_space _) (call_again t n v r h))
item_again (items.Step (entries.Made k x)) h = let m = made_again k x h in
    rw m.text (made_line_again (32 ∷ m.rest) (entries.Made k x) (a_space m.rest) m.read)
item_again (items.Step (entries.Released e)) h = rw (released_line e) (released_again e h)
item_again (items.Step (entries.Gone t name)) h = rw (gone_line t name) (gone_again t name h.1 h.2)
item_again (items.Step (entries.Lost t)) h = rw (lost_line t) (lost_again t h.1)
item_again (items.Step entries.Phase) h = phase_again
item_again (items.Task t x) h = rw (total_line t x) (total_again t x h.0 h.1)
item_again (items.Counts v w) h = rw (counts_line v w) (counts_again v w h.0 h.1)
item_again items.End h = last_again

-- ---- no line feed in a line

begun_low : (w rest : List ℕ) → above w ≡ true → IsLow rest → IsLow (w ++ rest)
begun_low w rest h l = low_append w rest (above_plain w h) l

pub item_low : (i : Item) → IsItem i → IsLow (item_text i)
item_low (items.Title v) h = begun_low (codes "report") (32 ∷ decimal v) refl (low_word (decimal v) (version_plain v h))
item_low (items.Step (entries.Call t n v r)) h = subst
    (λ (l : List ℕ). IsLow l)
    (sym (call_text t n v r)) (begun_low (codes "call") (call_rest t n v r) refl (call_low t n v r h))
item_low (items.Step (entries.Made k x)) h = let m = made_again k x h in
    subst (λ (l : List ℕ). IsLow l) (sym m.text) (begun_low (codes "made") (32 ∷ m.rest) refl m.low)
item_low (items.Step (entries.Released e)) h = subst
    (λ (l : List ℕ). IsLow l)
    (sym (released_line e)) (begun_low (codes "released") (num e []) refl (low_num e [] (omega (arith, h.1)) tt))
item_low (items.Step (entries.Gone t name)) h = subst
    (λ (l : List ℕ). IsLow l)
    (sym (gone_line t name)) (begun_low (codes "gone") (num t (num name [])) refl (low_num t (num name []) (omega (
      arith,
      h.1.1,
    )) (low_num name [] (omega (arith, h.2.1)) tt)))
item_low (items.Step (entries.Lost t)) h = subst
    (λ (l : List ℕ). IsLow l)
    (sym (lost_line t)) (begun_low (codes "lost") (num t []) refl (low_num t [] (omega (arith, h.1.1)) tt))
item_low (items.Step entries.Phase) h = begun_low (codes "phase") [] refl tt
item_low (items.Task t x) h =
    let f = num x.out [] in
    let e = said (codes "out") f in
    let d = num x.held e in
    let c = said (codes "held") d in
    let b = num x.ledger c in
    let a = said (codes "ledger") b in
    let low_e = low_said (codes "out") f (above_plain (codes "out") refl) (low_num x.out [] (omega (
      arith,
      h.1.2,
    )) tt) in
    let low_c = low_said (codes "held") d (above_plain (codes "held") refl) (low_num x.held e (omega (
      arith,
      h.1.1,
    )) low_e) in
    let low_a = low_said (codes "ledger") b (above_plain (codes "ledger") refl) (low_num x.ledger c (omega (
      arith,
      h.1.0,
    )) low_c) in
    subst (λ (l : List ℕ). IsLow l)
    (sym (total_line t x)) (begun_low (codes "task") (num t a) refl (low_num t a (omega (arith, h.0.1)) low_a))
item_low (items.Counts v w) h =
    let b = num w [] in
    let a = said (codes "values") b in
    let low_a = low_said (codes "values") b (above_plain (codes "values") refl) (low_num w [] (omega (
      arith,
      h.1,
    )) tt) in
    subst (λ (l : List ℕ). IsLow l)
    (sym (counts_line v w)) (begun_low (codes "vouchers") (num v a) refl (low_num v a (omega (arith, h.0)) low_a))
item_low items.End h = begun_low (codes "end") [] refl tt

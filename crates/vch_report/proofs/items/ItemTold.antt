-- What is read of a line is so.
use Rattle.std.proofs.Common.{◌≡◌, inl, inr, ℕ, ◌^◌, ◌<◌, true, cond, List, [], ◌∷◌, ◌++◌, Option, Some, None, refl, sym, ap, subst, ◌∙◌, arith, codes, append_assoc, append-nil}
use Rattle.vch_model.specs.declared.entry.Entry.{Entry}
use Rattle.vch_model.specs.declared.entry.Entry.TheVariants as entries
use Rattle.vch_model.specs.declared.total.Total.{Total}
use Rattle.vch_model.specs.Text.{entry_text, total_text, counts_text}
use Rattle.vch_text.specs.Words.{is_word, front_of, word_at, end_of}
use Rattle.vch_model.specs.Grammar.{StartsWithLine}
use Rattle.std.specs.Fmt.{decimal, digits}
use Rattle.vch_text.proofs.CallerLemmas.{front_whole, Told, told_bind, told_test, word_true, word_told, end_told}
use Rattle.vch_report.specs.declared.item.Item.{Item}
use Rattle.vch_report.specs.declared.item.Item.TheVariants as items
use Rattle.vch_report.specs.Numerals.{below_at, ordinal_at, after}
use Rattle.vch_report.specs.Values.{made_of}
use Rattle.vch_report.specs.Replies.{call_of}
use Rattle.vch_model.specs.WellFormed.{IsNumber, IsEntry, IsTotal}
use Rattle.vch_report.specs.WellFormed.{IsVersion}
use Rattle.vch_report.specs.Items.{item_text}
use Rattle.vch_report.specs.Lines.{released_of, release_of, gone_of, lost_of, phase_of, version_of, title_of, last_of, total_of, counts_of, call_item, made_item, small_item, item_by, item_of}
use Rattle.vch_report.proofs.words.LineWords.{said, num, BelowAt, below_at_told, OrdinalAt, ordinal_at_told, after_told}
use Rattle.vch_report.proofs.items.MadeLines.{MadeAt, made_told}
use Rattle.vch_report.proofs.items.ReplyTold.{CallAt, call_told}

-- an item that some report has
abbrev pub IsItem : Item → Type 0
IsItem (items.Title version) = IsVersion version
IsItem (items.Step entry) = IsEntry 2 entry
IsItem (items.Task t total) = IsNumber t × IsTotal total
IsItem (items.Counts vouchers values) = (vouchers < 2 ^ 64) × (values < 2 ^ 64)
IsItem items.End = Unit {0}

-- the line spells the item
pub record IsLine (line : List ℕ) (i : Item) : Type 0 where
  pub good : IsItem i
  pub text : line ≡ item_text i

-- ---- texts

pub total_line : (t : ℕ) (x : Total)
    → total_text t x ≡ codes "task" ++ num t (said (codes "ledger") (num x.ledger (said (codes "held") (num x.held
    (said (codes "out") (num x.out []))))))
total_line t x = simp (append_assoc, append-nil)

pub counts_line : (v w : ℕ) → counts_text v w ≡ codes "vouchers" ++ num v (said (codes "values") (num w []))
counts_line v w = simp (append_assoc, append-nil)

pub released_line : (e : ℕ) → entry_text (entries.Released e) ≡ codes "released" ++ num e []
released_line e = simp append-nil

pub gone_line : (t name : ℕ) → entry_text (entries.Gone t name) ≡ codes "gone" ++ num t (num name [])
gone_line t name = simp (append_assoc, append-nil)

pub lost_line : (t : ℕ) → entry_text (entries.Lost t) ≡ codes "lost" ++ num t []
lost_line t = simp append-nil

-- ---- what is read is so

release_told : (rest : List ℕ) → Told (λ i. IsLine (codes "released" ++ rest) i) (release_of rest)
unfolding release_of released_of
release_told rest =
    let S : Entry → Type 0 = λ e. IsLine (codes "released" ++ rest) (items.Step e) in
    told_bind S (λ i. IsLine (codes "released" ++ rest) i) (released_of rest) _
    (told_bind (λ x. OrdinalAt rest x.0 x.1) S (ordinal_at rest) _ (ordinal_at_told rest)
    (λ x h. told_bind (λ u. x.1 ≡ []) S (end_of x.1) _ (end_told x.1)
    (λ u n. record {
      good = h.number;
      text = ap (λ l. codes "released" ++ l) (h.parts ∙ ap (num x.0) n)
          ∙ sym (released_line x.0);
    })))
    (λ e h. h)

phase_told : (rest : List ℕ) → Told (λ i. IsLine (codes "phase" ++ rest) i) (phase_of rest)
unfolding phase_of
phase_told rest =
    told_bind (λ u. rest ≡ []) (λ i. IsLine (codes "phase" ++ rest) i) (end_of rest) _ (end_told rest)
    (λ u n. record { good = tt; text = ap (λ l. codes "phase" ++ l) n })

gone_told : (rest : List ℕ) → Told (λ i. IsLine (codes "gone" ++ rest) i) (gone_of rest)
unfolding gone_of
gone_told rest =
    let S : Item → Type 0 = λ i. IsLine (codes "gone" ++ rest) i in
    told_bind (λ x. OrdinalAt rest x.0 x.1) S (ordinal_at rest) _ (ordinal_at_told rest)
    (λ t h. told_bind (λ x. OrdinalAt t.1 x.0 x.1) S (ordinal_at t.1) _ (ordinal_at_told t.1)
    (λ name g. told_bind (λ u. name.1 ≡ []) S (end_of name.1) _ (end_told name.1)
    (λ u n. record {
      good = (refl, h.number, g.number);
      text = ap (λ l. codes "gone" ++ l) (h.parts ∙ ap (num t.0) (g.parts ∙ ap (num name.0) n))
          ∙ sym (gone_line t.0 name.0);
    })))

lost_told : (rest : List ℕ) → Told (λ i. IsLine (codes "lost" ++ rest) i) (lost_of rest)
unfolding lost_of
lost_told rest =
    let S : Item → Type 0 = λ i. IsLine (codes "lost" ++ rest) i in
    told_bind (λ x. OrdinalAt rest x.0 x.1) S (ordinal_at rest) _ (ordinal_at_told rest)
    (λ t h. told_bind (λ u. t.1 ≡ []) S (end_of t.1) _ (end_told t.1)
    (λ u n. record {
      good = (refl, h.number);
      text = ap (λ l. codes "lost" ++ l) (h.parts ∙ ap (num t.0) n) ∙ sym (lost_line t.0);
    }))

-- a version that the word spells
abbrev IsVersionWord : List ℕ → ℕ → Type 0
IsVersionWord w v = (w ≡ decimal v) × IsVersion v

version_told : (w : List ℕ) → Told (λ v. IsVersionWord w v) (version_of w)
unfolding version_of digits
version_told w =
    told_test (λ v. IsVersionWord w v) (is_word w (codes "1")) (Some 1) (cond (is_word w (codes "2")) (Some 2) None) (λ t. (word_true w (codes "1") t, inl refl))
    (λ f. told_test (λ v. IsVersionWord w v) (is_word w (codes "2")) (Some 2) None (λ t. (word_true w (codes "2") t, inr refl)) (λ f. tt))

title_told : (rest : List ℕ) → Told (λ i. IsLine (codes "report" ++ rest) i) (title_of rest)
unfolding title_of
title_told rest =
    let S : Item → Type 0 = λ i. IsLine (codes "report" ++ rest) i in
    told_bind (λ x. StartsWithLine rest x.0 x.1) S (word_at rest) _ (word_told rest)
    (λ w b. told_bind (λ u. w.1 ≡ []) S (end_of w.1) _ (end_told w.1)
    (λ u n. told_bind (λ v. IsVersionWord w.0 v) S (version_of w.0) _ (version_told w.0)
    (λ v h. record {
      good = h.1;
      text = ap (λ l. codes "report" ++ l) (b.parts ∙ ap (said w.0) n ∙ ap (λ l. 32 ∷ l) (append-nil w.0 ∙ h.0));
    })))

last_told : (rest : List ℕ) → Told (λ i. IsLine (codes "end" ++ rest) i) (last_of rest)
unfolding last_of
last_told rest =
    told_bind (λ u. rest ≡ []) (λ i. IsLine (codes "end" ++ rest) i) (end_of rest) _ (end_told rest)
    (λ u n. record { good = tt; text = ap (λ l. codes "end" ++ l) n })

total_told : (rest : List ℕ) → Told (λ i. IsLine (codes "task" ++ rest) i) (total_of rest)
unfolding total_of
total_told rest =
    let S : Item → Type 0 = λ i. IsLine (codes "task" ++ rest) i in
    told_bind (λ x. OrdinalAt rest x.0 x.1) S (ordinal_at rest) _ (ordinal_at_told rest)
    (λ t h. told_bind (λ more. t.1 ≡ said (codes "ledger") more) S (after (codes "ledger") t.1) _ (after_told
    (codes "ledger") t.1)
    (λ a ha. told_bind (λ x. BelowAt (2 ^ 128) a x.0 x.1) S (below_at (2 ^ 128) a) _ (below_at_told (2 ^ 128) a
    (omega arith))
    (λ x hx. told_bind (λ more. x.1 ≡ said (codes "held") more) S (after (codes "held") x.1) _ (after_told
    (codes "held") x.1)
    (λ b hb. told_bind (λ x. BelowAt (2 ^ 128) b x.0 x.1) S (below_at (2 ^ 128) b) _ (below_at_told (2 ^ 128) b
    (omega arith))
    (λ y hy. told_bind (λ more. y.1 ≡ said (codes "out") more) S (after (codes "out") y.1) _ (after_told
    (codes "out") y.1)
    (λ c hc. told_bind (λ x. BelowAt (2 ^ 128) c x.0 x.1) S (below_at (2 ^ 128) c) _ (below_at_told (2 ^ 128) c
    (omega arith))
    (λ z hz. told_bind (λ u. z.1 ≡ []) S (end_of z.1) _ (end_told z.1)
    (λ u n. record {
      good = (h.number, (hx.small, hy.small, hz.small));
      text =
          ap (λ l. codes "task" ++ l)
          (h.parts ∙ ap (num t.0) (ha ∙ ap (said (codes "ledger")) (hx.parts ∙ ap (num x.0) (hb
          ∙ ap (said (codes "held")) (hy.parts ∙ ap (num y.0) (hc ∙ ap (said (codes "out")) (hz.parts
          ∙ ap (num z.0) n)))))))
          ∙ sym (total_line t.0 (record { ledger = x.0; held = y.0; out = z.0 }));
    }))))))))

counts_told : (rest : List ℕ) → Told (λ i. IsLine (codes "vouchers" ++ rest) i) (counts_of rest)
unfolding counts_of
counts_told rest =
    let S : Item → Type 0 = λ i. IsLine (codes "vouchers" ++ rest) i in
    told_bind (λ x. BelowAt (2 ^ 64) rest x.0 x.1) S (below_at (2 ^ 64) rest) _ (below_at_told (2 ^ 64) rest
    (omega arith))
    (λ v h. told_bind (λ more. v.1 ≡ said (codes "values") more) S (after (codes "values") v.1) _ (after_told
    (codes "values") v.1)
    (λ a ha. told_bind (λ x. BelowAt (2 ^ 64) a x.0 x.1) S (below_at (2 ^ 64) a) _ (below_at_told (2 ^ 64) a
    (omega arith))
    (λ w g. told_bind (λ u. w.1 ≡ []) S (end_of w.1) _ (end_told w.1)
    (λ u n. record {
      good = (h.small, g.small);
      text = ap (λ l. codes "vouchers" ++ l) (h.parts ∙ ap (num v.0) (ha ∙ ap (said (codes "values")) (g.parts
          ∙ ap (num w.0) n))) ∙ sym (counts_line v.0 w.0);
    }))))

call_item_told : (rest : List ℕ) → Told (λ i. IsLine (codes "call" ++ rest) i) (call_item rest)
unfolding call_item
call_item_told rest =
    told_bind (λ e. CallAt rest e) (λ i. IsLine (codes "call" ++ rest) i) (call_of rest) _ (call_told rest)
    (λ e h. record { good = h.good; text = h.text })

made_item_told : (rest : List ℕ) → Told (λ i. IsLine (codes "made" ++ rest) i) (made_item rest)
unfolding made_item
made_item_told rest =
    told_bind (λ e. MadeAt rest e) (λ i. IsLine (codes "made" ++ rest) i) (made_of rest) _ (made_told rest)
    (λ e h. record { good = h.good; text = h.text })

-- a line that begins with the word
by_word : (w text rest : List ℕ) (r : Option Item) → is_word w text ≡ true → Told (λ i. IsLine (text ++ rest) i) r
    → Told (λ i. IsLine (w ++ rest) i) r
by_word w text rest r t h = subst (λ (l : List ℕ). Told (λ i. IsLine (l ++ rest) i) r) (sym (word_true w text t)) h

small_told : (w rest : List ℕ) → Told (λ i. IsLine (w ++ rest) i) (small_item w rest)
unfolding small_item
small_told w rest =
    let S : Item → Type 0 = λ i. IsLine (w ++ rest) i in
    told_test S (is_word w (codes "released")) (release_of rest) _
    (λ t. by_word w (codes "released") rest (release_of rest) t (release_told rest))
    (λ f. told_test S (is_word w (codes "gone")) (gone_of rest) _
    (λ t. by_word w (codes "gone") rest (gone_of rest) t (gone_told rest))
    (λ f. told_test S (is_word w (codes "lost")) (lost_of rest) _
    (λ t. by_word w (codes "lost") rest (lost_of rest) t (lost_told rest))
    (λ f. told_test S (is_word w (codes "phase")) (phase_of rest) _
    (λ t. by_word w (codes "phase") rest (phase_of rest) t (phase_told rest))
    (λ f. told_test S (is_word w (codes "task")) (total_of rest) _
    (λ t. by_word w (codes "task") rest (total_of rest) t (total_told rest))
    (λ f. told_test S (is_word w (codes "vouchers")) (counts_of rest) _
    (λ t. by_word w (codes "vouchers") rest (counts_of rest) t (counts_told rest))
    (λ f. told_test S (is_word w (codes "report")) (title_of rest) _
    (λ t. by_word w (codes "report") rest (title_of rest) t (title_told rest))
    (λ f. told_test S (is_word w (codes "end")) (last_of rest) _
    (λ t. by_word w (codes "end") rest (last_of rest) t (last_told rest)) (λ f. tt))))))))

by_told : (w rest : List ℕ) → Told (λ i. IsLine (w ++ rest) i) (item_by w rest)
unfolding item_by
by_told w rest =
    let S : Item → Type 0 = λ i. IsLine (w ++ rest) i in
    told_test S (is_word w (codes "call")) (call_item rest) _
    (λ t. by_word w (codes "call") rest (call_item rest) t (call_item_told rest))
    (λ f. told_test S (is_word w (codes "made")) (made_item rest) _
    (λ t. by_word w (codes "made") rest (made_item rest) t (made_item_told rest)) (λ f. small_told w rest))

line_told : (line : List ℕ) → Told (λ i. IsLine line i) (item_of line)
unfolding item_of
line_told line =
    let p = front_of 32 line in
    subst (λ (l : List ℕ). Told (λ i. IsLine l i) (item_by p.0 p.1)) (front_whole 32 line) (by_told p.0 p.1)

by_some : {X : Type 0} (R : X → Type 0) (r : Option X) (x : X) → r ≡ Some x → Told R r → R x
by_some {X} R r x e h = let P : Option X → Type 0 = λ o. Told R o in subst P e h

pub item_told : (line : List ℕ) (i : Item) → item_of line ≡ Some i → IsLine line i
item_told line i e = by_some (λ i. IsLine line i) (item_of line) i e (line_told line)

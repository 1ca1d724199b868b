-- A text has one translation, or one first line that can't be translated.
use Rattle.vch_header.specs.Translating.{message_of}
use Rattle.vch_text.proofs.CallerLemmas.{Told}
use Rattle.std.proofs.Common.{◌≡◌, ◌+◌, ℕ, List, [], ◌∷◌, refl, sym, ap, ◌∙◌, inl, inr, subst, Option, Some, None, ◌⊎◌}
use Rattle.vch_model.specs.TextLines.{split_of}
use Rattle.vch_text.specs.Words.{joined}
use Rattle.vch_header.specs.Fields.{Fields}
use Rattle.vch_header.specs.Carrying.{carried_by}
use Rattle.vch_header.specs.Messages.{SpellsHeader, HasFault, send_text, IsSend, Becomes, IsRefused, Become, IsTranslation, FirstRefused, IsRefusedAt, IsMessage}
use Rattle.vch_header.specs.declared.fault.MessageFault.{MessageFault}
use Rattle.vch_header.proofs.MessageWords.{one_message, message_told, none_other}
use Rattle.vch_header.proofs.HeaderDigits as digits

-- ---- one line

same_send : (line a b : List ℕ) → IsSend line a → IsSend line b → a ≡ b
same_send line a b s t =
    let w = one_message line s.task s.digits t.task t.digits s.message t.message in
    let h : s.fields ≡ t.fields = digits.one_header t.digits s.fields t.fields (subst (λ d. SpellsHeader d s.fields) w.1 s.spelled) t.spelled in
    s.text ∙ ap (λ x. send_text x (carried_by s.fields)) w.0 ∙ ap (λ (f : Fields). send_text t.task (carried_by f)) h ∙ sym t.text

same_place : (line a b : List ℕ) → Becomes line a → Becomes line b → a ≡ b
same_place line a b (inl p) (inl q) = p.1 ∙ sym q.1
same_place line a b (inl p) (inr t) = absurd (p.0 t.task t.digits t.message)
same_place line a b (inr s) (inl q) = absurd (q.0 s.task s.digits s.message)
same_place line a b (inr s) (inr t) = same_send line a b s t

place_apart : (line a : List ℕ) (why : MessageFault) → Becomes line a → IsRefused line why → ⊥
place_apart line a why (inl p) r = p.0 r.task r.digits r.message
place_apart line a why (inr s) r =
    let w = one_message line s.task s.digits r.task r.digits s.message r.message in
    digits.header_apart r.digits s.fields why (subst (λ d. SpellsHeader d s.fields) w.1 s.spelled) r.fault

same_fault : (line : List ℕ) (a b : MessageFault) → IsRefused line a → IsRefused line b → a ≡ b
same_fault line a b r s =
    let w = one_message line r.task r.digits s.task s.digits r.message s.message in
    digits.one_fault s.digits a b (subst (λ d. HasFault d a) w.1 r.fault) s.fault

-- ---- all lines

same_lines : (lines a b : List (List ℕ)) → Become lines a → Become lines b → a ≡ b
same_lines [] [] [] p q = refl
same_lines [] [] (y ∷ b) p q = absurd q
same_lines [] (x ∷ a) b p q = absurd p
same_lines (l ∷ lines) [] b p q = absurd p
same_lines (l ∷ lines) (x ∷ a) [] p q = absurd q
same_lines (l ∷ lines) (x ∷ a) (y ∷ b) p q = ap (λ (z : List ℕ). z ∷ a) (same_place l x y p.0 q.0) ∙ ap (λ (z : List (List ℕ)). y ∷ z) (same_lines lines a b p.1 q.1)

lines_apart : (n : ℕ) (lines a : List (List ℕ)) (at : ℕ) (why : MessageFault) → Become lines a → FirstRefused n lines at why → ⊥
lines_apart n [] a at why p r = r
lines_apart n (l ∷ lines) [] at why p r = p
lines_apart n (l ∷ lines) (x ∷ a) at why p (inl r) = place_apart l x why p.0 r.0
lines_apart n (l ∷ lines) (x ∷ a) at why p (inr r) = lines_apart (n + 1) lines a at why p.1 r.2

one_refused : (n : ℕ) (lines : List (List ℕ)) (s t : ℕ) (a b : MessageFault) → FirstRefused n lines s a → FirstRefused n lines t b → (s ≡ t) × (a ≡ b)
one_refused n [] s t a b p q = absurd p
one_refused n (l ∷ lines) s t a b (inl p) (inl q) = (p.1 ∙ sym q.1, same_fault l a b p.0 q.0)
one_refused n (l ∷ lines) s t a b (inl p) (inr q) = absurd (place_apart l q.0 a q.1 p.0)
one_refused n (l ∷ lines) s t a b (inr p) (inl q) = absurd (place_apart l p.0 b p.1 q.0)
one_refused n (l ∷ lines) s t a b (inr p) (inr q) = one_refused (n + 1) lines s t a b p.2 q.2

-- ---- the text

pub one_translation : (text a b : List ℕ) → IsTranslation text a → IsTranslation text b → a ≡ b
one_translation text a b p q = p.whole ∙ ap (λ (ls : List (List ℕ)). joined (ls, (split_of text).1)) (same_lines (split_of text).0 p.lines q.lines p.each q.each) ∙ sym q.whole

pub apart : (text out : List ℕ) (line : ℕ) (why : MessageFault) → IsTranslation text out → IsRefusedAt text line why → ⊥
apart text out line why p r = lines_apart 1 (split_of text).0 p.lines line why p.each r

pub one_fault : (text : List ℕ) (m n : ℕ) (a b : MessageFault) → IsRefusedAt text m a → IsRefusedAt text n b → (m ≡ n) × (a ≡ b)
one_fault text m n a b p q = one_refused 1 (split_of text).0 m n a b p q

-- ---- a text has a translation or a first line that can't be translated

abbrev LineAnswer : List ℕ → Type 0
LineAnswer line = ((out : List ℕ) × Becomes line out) ⊎ ((why : MessageFault) × IsRefused line why)

by_digits : (line task word : List ℕ) → IsMessage line task word → digits.DigitsAnswer word → LineAnswer line
by_digits line task word m (inl s) = inl (send_text task (carried_by s.0), inr (record { task = task; digits = word; fields = s.0; message = m; spelled = s.1; text = refl }))
by_digits line task word m (inr f) = inr (f.0, record { task = task; digits = word; message = m; fault = f.1 })

by_words : (line : List ℕ) (o : Option (List ℕ × List ℕ)) → message_of line ≡ o → LineAnswer line
by_words line None e = inl (line, inl (none_other line e, refl))
by_words line (Some m) e = by_digits line m.0 m.1 (subst (Told (λ w. IsMessage line w.0 w.1)) e (message_told line)) (digits.digits_answer m.1)

abbrev LinesAnswer : ℕ → List (List ℕ) → Type 0
LinesAnswer n lines = ((outs : List (List ℕ)) × Become lines outs) ⊎ ((at : ℕ) × (why : MessageFault) × FirstRefused n lines at why)

one_more : (n : ℕ) (line : List ℕ) (lines : List (List ℕ)) → LineAnswer line → LinesAnswer (n + 1) lines → LinesAnswer n (line ∷ lines)
one_more n line lines (inl p) (inl q) = inl (p.0 ∷ q.0, (p.1, q.1))
one_more n line lines (inl p) (inr q) = inr (q.0, q.1, inr (p.0, p.1, q.2))
one_more n line lines (inr r) q = inr (n, r.0, inl (r.1, refl))

lines_answer : (n : ℕ) (lines : List (List ℕ)) → LinesAnswer n lines
lines_answer n [] = inl ([], tt)
lines_answer n (line ∷ lines) = one_more n line lines (by_words line (message_of line) refl) (lines_answer (n + 1) lines)

abbrev pub TextAnswer : List ℕ → Type 0
TextAnswer text = ((out : List ℕ) × IsTranslation text out) ⊎ ((line : ℕ) × (why : MessageFault) × IsRefusedAt text line why)

by_lines : (text : List ℕ) → LinesAnswer 1 (split_of text).0 → TextAnswer text
by_lines text (inl p) = inl (joined (p.0, (split_of text).1), record { lines = p.0; each = p.1; whole = refl })
by_lines text (inr r) = inr r

pub text_answer : (text : List ℕ) → TextAnswer text
text_answer text = by_lines text (lines_answer 1 (split_of text).0)

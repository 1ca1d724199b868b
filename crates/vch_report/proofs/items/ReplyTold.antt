-- What is read behind the word `call` is so.
use Rattle.std.proofs.Common.{◌≡◌, ℕ, ◌^◌, Bool, true, false, List, [], ◌∷◌, ◌++◌, refl, sym, ap, ◌∙◌, arith, codes, append_assoc, append-nil}
use Rattle.std.specs.Fmt.{decimal}
use Rattle.vch_model.specs.declared.call.Word.{Word}
use Rattle.vch_model.specs.declared.call.Word.TheVariants as words
use Rattle.vch_model.specs.declared.entry.Entry.{Entry}
use Rattle.vch_model.specs.declared.entry.Entry.TheVariants as entries
use Rattle.vch_model.specs.declared.entry.Reply.{Reply}
use Rattle.vch_model.specs.declared.entry.Reply.TheVariants as replies
use Rattle.vch_model.specs.Text.{hex_of, word_text, reply_text, entry_text}
use Rattle.vch_model.specs.Grammar.{StartsWithLine}
use Rattle.vch_text.specs.Words.{is_word, word_at, end_of}
use Rattle.vch_text.proofs.CallerLemmas.{Told, told_bind, told_test, told_map, word_true, word_told, end_told}
use Rattle.vch_report.specs.Numerals.{below_at, ordinal_at, bytes_at}
use Rattle.vch_report.specs.Replies.{verb_of, code_of, created_of, done_of, content_of, mark_of, recipe_of, received_of, ledger_of, assertions_of, live_of, answer_of, refused_of, reply_of, called_of, call_of}
use Rattle.vch_model.specs.WellFormed.{IsNumber, IsSilent, IsWordOf, IsReply, IsEntry}
use Rattle.vch_report.proofs.words.LineWords.{said, num, BelowAt, below_at_told, OrdinalAt, ordinal_at_told, BytesAt, bytes_at_told}
use Rattle.vch_report.proofs.words.CodeLines.{verb_told, IsCode, code_told}

-- ---- answers with the code 0

-- the reply that the rest behind the code 0 spells
pub record Answered (v : Word) (rest : List ℕ) (r : Reply) : Type 0 where
  pub good : IsReply v r
  pub text : 48 ∷ rest ≡ reply_text r

pub received_text : (s i n : ℕ) → 48 ∷ num s (num i (num n [])) ≡ reply_text (replies.Received s i n)
received_text s i n = simp (append_assoc, append-nil)

pub two_text : (a b : ℕ) → 48 ∷ num a (num b []) ≡ (codes "0" ++ (32 ∷ decimal a)) ++ (32 ∷ decimal b)
two_text a b = simp (append_assoc, append-nil)

pub one_text : (a : ℕ) → 48 ∷ num a [] ≡ codes "0" ++ (32 ∷ decimal a)
one_text a = simp append-nil

created_told : (rest : List ℕ) → Told (λ r. Answered words.Create rest r) (created_of rest)
unfolding created_of
created_told rest =
    told_bind (λ x. BelowAt (2 ^ 32) rest x.0 x.1)
    (λ r. Answered words.Create rest r) (below_at (2 ^ 32) rest) _ (below_at_told (2 ^ 32) rest (omega arith))
    (λ a h. told_bind (λ u. a.1 ≡ []) (λ r. Answered words.Create rest r) (end_of a.1) _ (end_told a.1)
    (λ u n. record { good = (refl, h.small); text = ap (λ l. 48 ∷ l) (h.parts ∙ ap (num a.0) n) ∙ one_text a.0 }))

done_told : (v : Word) (rest : List ℕ) → IsSilent v → Told (λ r. Answered v rest r) (done_of rest)
unfolding done_of
done_told v rest s =
    told_bind (λ u. rest ≡ []) (λ r. Answered v rest r) (end_of rest) _ (end_told rest) (λ u n. record {
      good = s;
      text = ap (λ l. 48 ∷ l) n;
    })

content_told : (rest : List ℕ) → Told (λ r. Answered words.Extract rest r) (content_of rest)
unfolding content_of
content_told rest =
    told_bind (λ b. BytesAt rest b) (λ r. Answered words.Extract rest r) (bytes_at rest) _ (bytes_at_told rest)
    (λ b h. record { good = (refl, h.bytes_are); text = ap (λ l. 48 ∷ l) h.parts })

abbrev pub mark_text : Bool → List ℕ
mark_text true = codes "whole"
mark_text false = codes "part"

mark_told : (w : List ℕ) → Told (λ m. w ≡ mark_text m) (mark_of w)
unfolding mark_of
mark_told w =
    told_test (λ m. w ≡ mark_text m) (is_word w (codes "whole")) _ _ (λ t. word_true w (codes "whole") t)
    (λ f. told_test (λ m. w ≡ mark_text m) (is_word w (codes "part")) _ _ (λ t. word_true w (codes "part") t) (λ f. tt))

pub mark_line : (m : Bool) (b : List ℕ) → 48 ∷ said (mark_text m) (32 ∷ hex_of b) ≡ reply_text (replies.Recipe m b)
mark_line true b = refl
mark_line false b = refl

recipe_told : (rest : List ℕ) → Told (λ r. Answered words.Recipes rest r) (recipe_of rest)
unfolding recipe_of
recipe_told rest =
    told_bind (λ x. StartsWithLine rest x.0 x.1) (λ r. Answered words.Recipes rest r) (word_at rest) _ (word_told rest)
    (λ w b. told_bind (λ m. w.0 ≡ mark_text m) (λ r. Answered words.Recipes rest r) (mark_of w.0) _ (mark_told w.0)
    (λ m e. told_bind (λ x. BytesAt w.1 x) (λ r. Answered words.Recipes rest r) (bytes_at w.1) _ (bytes_at_told w.1)
    (λ x h. record {
      good = (refl, h.bytes_are);
      text = ap (λ l. 48 ∷ l) (b.parts ∙ ap (λ l. said l w.1) e
          ∙ ap (said (mark_text m)) h.parts) ∙ mark_line m x;
    })))

received_told : (rest : List ℕ) → Told (λ r. Answered words.Recv rest r) (received_of rest)
unfolding received_of
received_told rest =
    told_bind (λ x. BelowAt (2 ^ 32) rest x.0 x.1)
    (λ r. Answered words.Recv rest r) (below_at (2 ^ 32) rest) _ (below_at_told (2 ^ 32) rest (omega arith))
    (λ a h. told_bind (λ x. BelowAt (2 ^ 32) a.1 x.0 x.1)
    (λ r. Answered words.Recv rest r) (below_at (2 ^ 32) a.1) _ (below_at_told (2 ^ 32) a.1 (omega arith))
    (λ b g. told_bind (λ x. BelowAt (2 ^ 32) b.1 x.0 x.1)
    (λ r. Answered words.Recv rest r) (below_at (2 ^ 32) b.1) _ (below_at_told (2 ^ 32) b.1 (omega arith))
    (λ c f. told_bind (λ u. c.1 ≡ []) (λ r. Answered words.Recv rest r) (end_of c.1) _ (end_told c.1)
    (λ u n. record {
      good = (refl, h.small, g.small, f.small);
      text = ap (λ l. 48 ∷ l) (h.parts
          ∙ ap (num a.0) (g.parts ∙ ap (num b.0) (f.parts ∙ ap (num c.0) n))) ∙ received_text a.0 b.0 c.0;
    }))))

ledger_told : (rest : List ℕ) → Told (λ r. Answered words.Ledger rest r) (ledger_of rest)
unfolding ledger_of
ledger_told rest =
    told_bind (λ x. BelowAt (2 ^ 128) rest x.0 x.1)
    (λ r. Answered words.Ledger rest r) (below_at (2 ^ 128) rest) _ (below_at_told (2 ^ 128) rest (omega arith))
    (λ a h. told_bind (λ u. a.1 ≡ []) (λ r. Answered words.Ledger rest r) (end_of a.1) _ (end_told a.1)
    (λ u n. record { good = (refl, h.small); text = ap (λ l. 48 ∷ l) (h.parts ∙ ap (num a.0) n) ∙ one_text a.0 }))

assertions_told : (rest : List ℕ) → Told (λ r. Answered words.Assertions rest r) (assertions_of rest)
unfolding assertions_of
assertions_told rest =
    told_bind (λ x. BelowAt (2 ^ 128) rest x.0 x.1)
    (λ r. Answered words.Assertions rest r) (below_at (2 ^ 128) rest) _ (below_at_told (2 ^ 128) rest (omega arith))
    (λ a h. told_bind (λ x. BelowAt (2 ^ 128) a.1 x.0 x.1)
    (λ r. Answered words.Assertions rest r) (below_at (2 ^ 128) a.1) _ (below_at_told (2 ^ 128) a.1 (omega arith))
    (λ b g. told_bind (λ u. b.1 ≡ []) (λ r. Answered words.Assertions rest r) (end_of b.1) _ (end_told b.1)
    (λ u n. record {
      good = (refl, h.small, g.small);
      text = ap (λ l. 48 ∷ l) (h.parts ∙ ap (num a.0) (g.parts
          ∙ ap (num b.0) n)) ∙ two_text a.0 b.0;
    })))

live_told : (rest : List ℕ) → Told (λ r. Answered words.Live rest r) (live_of rest)
unfolding live_of
live_told rest =
    told_bind (λ x. BelowAt (2 ^ 64) rest x.0 x.1)
    (λ r. Answered words.Live rest r) (below_at (2 ^ 64) rest) _ (below_at_told (2 ^ 64) rest (omega arith))
    (λ a h. told_bind (λ x. BelowAt (2 ^ 64) a.1 x.0 x.1)
    (λ r. Answered words.Live rest r) (below_at (2 ^ 64) a.1) _ (below_at_told (2 ^ 64) a.1 (omega arith))
    (λ b g. told_bind (λ u. b.1 ≡ []) (λ r. Answered words.Live rest r) (end_of b.1) _ (end_told b.1)
    (λ u n. record {
      good = (refl, h.small, g.small);
      text = ap (λ l. 48 ∷ l) (h.parts ∙ ap (num a.0) (g.parts
          ∙ ap (num b.0) n)) ∙ two_text a.0 b.0;
    })))

answer_told : (v : Word) (rest : List ℕ) → Told (λ r. Answered v rest r) (answer_of v rest)
answer_told words.Create rest = created_told rest
answer_told words.GiveUp rest = done_told words.GiveUp rest tt
answer_told words.Extract rest = content_told rest
answer_told words.Recipes rest = recipe_told rest
answer_told words.Send rest = done_told words.Send rest tt
answer_told words.Recv rest = received_told rest
answer_told words.Extern rest = done_told words.Extern rest tt
answer_told words.Charge rest = done_told words.Charge rest tt
answer_told words.Ledger rest = ledger_told rest
answer_told words.Assertions rest = assertions_told rest
answer_told words.Live rest = live_told rest
answer_told words.Exit rest = done_told words.Exit rest tt

-- ---- a reply, and a call

-- the reply that what is left spells
pub record Replied (v : Word) (rest : List ℕ) (r : Reply) : Type 0 where
  pub good : IsReply v r
  pub text : rest ≡ 32 ∷ reply_text r

zero_told : (v : Word) (rest w more : List ℕ) → StartsWithLine rest w more → w ≡ codes "0"
    → Told (λ r. Replied v rest r) (answer_of v more)
zero_told v rest w more b e =
    told_map (λ r. Answered v more r) (λ r. Replied v rest r) (answer_of v more)
    (λ r a. record {
      good = a.good;
      text = b.parts ∙ ap (λ l. said l more) e
          ∙ ap (λ l. 32 ∷ l) a.text;
    }) (answer_told v more)

refused_told : (v : Word) (rest w more : List ℕ) → StartsWithLine rest w more → Told (λ r. Replied v rest r) (refused_of w more)
unfolding refused_of
refused_told v rest w more b =
    told_bind (λ u. more ≡ []) (λ r. Replied v rest r) (end_of more) _ (end_told more)
    (λ u n. told_bind (λ c. IsCode w c) (λ r. Replied v rest r) (code_of w) _ (code_told w)
    (λ c h. record { good = h.refusal; text = b.parts ∙ ap (said w) n ∙ ap (λ l. 32 ∷ l) (append-nil w ∙ h.word) }))

reply_told : (v : Word) (rest : List ℕ) → Told (λ r. Replied v rest r) (reply_of v rest)
unfolding reply_of
reply_told v rest =
    told_bind (λ x. StartsWithLine rest x.0 x.1) (λ r. Replied v rest r) (word_at rest) _ (word_told rest)
    (λ w b. told_test (λ r. Replied v rest r) (is_word w.0 (codes "0")) (answer_of v w.1) (refused_of w.0 w.1)
    (λ t. zero_told v rest w.0 w.1 b (word_true w.0 (codes "0") t)) (λ f. refused_told v rest w.0 w.1 b))

-- what stands behind the word `call`
abbrev pub call_rest : ℕ → ℕ → Word → Reply → List ℕ
call_rest t n v r = num t (num n (said (word_text v) (32 ∷ reply_text r)))

pub call_text : (t n : ℕ) (v : Word) (r : Reply) → entry_text (entries.Call t n v r) ≡ codes "call" ++ call_rest t n v r
call_text t n v r = simp append_assoc

record CalledAt (rest : List ℕ) (x : ℕ × ℕ × Word × List ℕ) : Type 0 where
  pub task : IsNumber x.0
  pub number : IsNumber x.1
  pub parts : rest ≡ num x.0 (num x.1 (said (word_text x.2) x.3))

called_told : (rest : List ℕ) → Told (λ x. CalledAt rest x) (called_of rest)
unfolding called_of
called_told rest =
    told_bind (λ x. OrdinalAt rest x.0 x.1) (λ x. CalledAt rest x) (ordinal_at rest) _ (ordinal_at_told rest)
    (λ t h. told_bind (λ x. OrdinalAt t.1 x.0 x.1) (λ x. CalledAt rest x) (ordinal_at t.1) _ (ordinal_at_told t.1)
    (λ n g. told_bind (λ x. StartsWithLine n.1 x.0 x.1) (λ x. CalledAt rest x) (word_at n.1) _ (word_told n.1)
    (λ w b. told_bind (λ v. w.0 ≡ word_text v) (λ x. CalledAt rest x) (verb_of w.0) _ (verb_told w.0)
    (λ v e. record {
      task = h.number;
      number = g.number;
      parts = h.parts ∙ ap (num t.0) (g.parts
          ∙ ap (num n.0) (b.parts ∙ ap (λ l. said l w.1) e));
    }))))

-- an entry that the line spells
pub record CallAt (rest : List ℕ) (e : Entry) : Type 0 where
  pub good : IsEntry 2 e
  pub text : codes "call" ++ rest ≡ entry_text e

any_word : (v : Word) → IsWordOf 2 v
any_word words.Exit = refl
any_word v = tt

pub call_told : (rest : List ℕ) → Told (λ e. CallAt rest e) (call_of rest)
unfolding call_of
call_told rest =
    told_bind (λ x. CalledAt rest x) (λ e. CallAt rest e) (called_of rest) _ (called_told rest)
    (λ x h. told_bind (λ r. Replied x.2 x.3 r) (λ e. CallAt rest e) (reply_of x.2 x.3) _ (reply_told x.2 x.3)
    (λ r g. record {
      good = (h.task, h.number, any_word x.2, g.good);
      text = ap (λ l. codes "call" ++ l) (h.parts ∙ ap (λ l. num x.0 (num x.1 (said (word_text x.2) l))) g.text)
          ∙ sym (call_text x.0 x.1 x.2 r);
    }))

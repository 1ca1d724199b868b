-- What stands behind the word `call` is read, and has no line feed.
use Rattle.std.proofs.Common.{◌≡◌, ℕ, ◌^◌, ◌<◌, ℤ, Bool, true, false, List, [], ◌∷◌, Some, refl, subst, arith, codes, append-nil}
use Rattle.hex.specs.Hex.{IsBytes}
use Rattle.vch_model.specs.declared.call.Word.{Word}
use Rattle.vch_model.specs.declared.call.Word.TheVariants as words
use Rattle.vch_model.specs.declared.entry.Entry.TheVariants as entries
use Rattle.vch_model.specs.declared.entry.Reply.{Reply}
use Rattle.vch_model.specs.declared.entry.Reply.TheVariants as replies
use Rattle.vch_model.specs.Text.{hex_of, word_text, reply_text}
use Rattle.vch_text.specs.Words.{is_word, word_at}
use Rattle.vch_text.proofs.CallerLemmas.{word_same, Follows, end_again, above_plain, hex_plain, IsLow}
use Rattle.vch_report.specs.Replies.{created_of, done_of, content_of, mark_of, recipe_of, received_of, ledger_of, assertions_of, live_of, answer_of, refused_of, reply_of, called_of, call_of}
use Rattle.vch_model.specs.WellFormed.{IsSilent, IsReply, IsEntry}
use Rattle.vch_report.proofs.words.LineWords.{said, num, no_more, a_space, said_again, low_said, low_word, low_num, below_at_again, ordinal_at_again, bytes_at_again}
use Rattle.vch_report.proofs.words.CodeLines.{verb_again, verb_plain, CodeWord, refusal_word}
use Rattle.vch_report.proofs.items.ReplyTold.{received_text, two_text, one_text, mark_text, mark_line, call_rest}

-- ---- what is so is read

zero_again : (v : Word) (rest : List ℕ) (r : Reply) → Follows rest → answer_of v rest ≡ Some r
    → 48 ∷ rest ≡ reply_text r → reply_of v (32 ∷ reply_text r) ≡ Some r
unfolding reply_of
zero_again v rest r f h e =
    let read : reply_of v (said (codes "0") rest) ≡ Some r = rw (
      said_again (codes "0") rest (above_plain
          (codes "0") refl) f,
      word_same (codes "0") (codes "0") refl,
    ) h in
    subst (λ (l : List ℕ). reply_of v (32 ∷ l) ≡ Some r) e read

code_again : (v : Word) (w : List ℕ) (n : ℤ) → CodeWord w n
    → reply_of v (32 ∷ w) ≡ Some (replies.Refused (record { number = n }))
unfolding reply_of refused_of
code_again v w n c =
    let plain = above_plain w c.plain in
    let word : word_at (32 ∷ w) ≡ Some (w, []) = subst (λ (l : List ℕ). word_at (32 ∷ l) ≡ Some (
      w,
      [],
    )) (append-nil w) (said_again w [] plain no_more) in
    rw (word, c.other, end_again [] refl, c.read) refl

created_again : (n : ℕ) → n < 2 ^ 32 → created_of (num n []) ≡ Some (replies.Created n)
unfolding created_of
created_again n lt = rw (below_at_again (2 ^ 32) n [] (omega arith) lt no_more, end_again [] refl) refl

done_again : done_of [] ≡ Some replies.Done
unfolding done_of
done_again = rw (end_again [] refl) refl

content_again : (b : List ℕ) → IsBytes b → content_of (32 ∷ hex_of b) ≡ Some (replies.Content b)
unfolding content_of
content_again b h = rw (bytes_at_again b h) refl

recipe_again : (m : Bool) (b : List ℕ) → IsBytes b
    → recipe_of (said (mark_text m) (32 ∷ hex_of b)) ≡ Some (replies.Recipe m b)
unfolding recipe_of mark_of is_word
recipe_again true b h = rw (
  said_again (codes "whole") (32 ∷ hex_of b) (above_plain (codes "whole") refl)
      (a_space _),
  bytes_at_again b h,
) refl
recipe_again false b h = rw (
  said_again (codes "part") (32 ∷ hex_of b) (above_plain (codes "part") refl)
      (a_space _),
  bytes_at_again b h,
) refl

received_again : (s i n : ℕ) → s < 2 ^ 32 → i < 2 ^ 32 → n < 2 ^ 32
    → received_of (num s (num i (num n []))) ≡ Some (replies.Received s i n)
unfolding received_of
received_again s i n a b c =
    rw (
      below_at_again (2 ^ 32) s (num i (num n [])) (omega arith) a (a_space _),
      below_at_again (2 ^ 32) i (num n []) (omega arith) b (a_space _),
      below_at_again (2 ^ 32) n [] (omega arith) c no_more,
      end_again [] refl,
    ) refl

ledger_again : (n : ℕ) → n < 2 ^ 128 → ledger_of (num n []) ≡ Some (replies.Ledger n)
unfolding ledger_of
ledger_again n lt = rw (below_at_again (2 ^ 128) n [] (omega arith) lt no_more, end_again [] refl) refl

assertions_again : (h o : ℕ) → h < 2 ^ 128 → o < 2 ^ 128
    → assertions_of (num h (num o [])) ≡ Some (replies.Assertions h o)
unfolding assertions_of
assertions_again h o a b = rw (
  below_at_again (2 ^ 128) h (num o []) (omega arith) a (a_space _),
  below_at_again (2 ^ 128) o [] (omega arith) b no_more,
  end_again [] refl,
) refl

live_again : (x y : ℕ) → x < 2 ^ 64 → y < 2 ^ 64 → live_of (num x (num y [])) ≡ Some (replies.Live x y)
unfolding live_of
live_again x y a b = rw (
  below_at_again (2 ^ 64) x (num y []) (omega arith) a (a_space _),
  below_at_again (2 ^ 64) y [] (omega arith) b no_more,
  end_again [] refl,
) refl

silent_again : (v : Word) → IsSilent v → answer_of v [] ≡ Some replies.Done
silent_again words.Create h = absurd h
silent_again words.GiveUp h = done_again
silent_again words.Extract h = absurd h
silent_again words.Recipes h = absurd h
silent_again words.Send h = done_again
silent_again words.Recv h = absurd h
silent_again words.Extern h = done_again
silent_again words.Charge h = done_again
silent_again words.Ledger h = absurd h
silent_again words.Assertions h = absurd h
silent_again words.Live h = absurd h
silent_again words.Exit h = done_again

reply_again : (v : Word) (r : Reply) → IsReply v r → reply_of v (32 ∷ reply_text r) ≡ Some r
reply_again v (replies.Created n) h = rw h.0 (zero_again words.Create (num n []) (replies.Created n) (a_space _)
    (created_again n h.1) (one_text n))
reply_again v replies.Done h = zero_again v [] replies.Done no_more (silent_again v h) refl
reply_again v (replies.Content b) h = rw h.0 (zero_again words.Extract (32 ∷ hex_of b) (replies.Content b)
    (a_space _) (content_again b h.1) refl)
reply_again v (replies.Recipe m b) h = rw h.0 (zero_again words.Recipes (said (mark_text m) (32 ∷ hex_of b))
    (replies.Recipe m b) (a_space _) (recipe_again m b h.1) (mark_line m b))
reply_again v (replies.Received s i n) h = rw h.0 (zero_again words.Recv (num s (num i (num n [])))
    (replies.Received s i n) (a_space _) (received_again s i n h.1 h.2 h.3) (received_text s i n))
reply_again v (replies.Ledger n) h = rw h.0 (zero_again words.Ledger (num n []) (replies.Ledger n) (a_space _)
    (ledger_again n h.1) (one_text n))
reply_again v (replies.Assertions a b) h = rw h.0 (zero_again words.Assertions (num a (num b []))
    (replies.Assertions a b) (a_space _) (assertions_again a b h.1 h.2) (two_text a b))
reply_again v (replies.Live a b) h = rw h.0 (zero_again words.Live (num a (num b [])) (replies.Live a b) (a_space _)
    (live_again a b h.1 h.2) (two_text a b))
reply_again v (replies.Refused c) h =
    let w = refusal_word c.number h in
    subst (λ (l : List ℕ). reply_of v (32 ∷ l) ≡ Some (replies.Refused c)) w.1.word (code_again v w.0 c.number w.1)

-- ---- no line feed in a line

reply_low : (v : Word) (r : Reply) → IsReply v r → IsLow (32 ∷ reply_text r)
reply_low v (replies.Created n) h = subst (λ (l : List ℕ). IsLow (32 ∷ l)) (one_text n) (
  omega arith,
  (
    omega arith,
    low_num n [] (omega (arith, h.1)) tt,
  ),
)
reply_low v replies.Done h = (omega arith, (omega arith, tt))
reply_low v (replies.Content b) h = (omega arith, (omega arith, low_word (hex_of b) (hex_plain b h.1)))
reply_low v (replies.Recipe true b) h = (
  omega arith,
  (
    omega arith,
    low_said (codes "whole") (32 ∷ hex_of b) (above_plain (codes "whole") refl)
        (low_word (hex_of b) (hex_plain b h.1)),
  ),
)
reply_low v (replies.Recipe false b) h = (
  omega arith,
  (
    omega arith,
    low_said (codes "part") (32 ∷ hex_of b) (above_plain (codes "part") refl) (low_word (hex_of b) (hex_plain b h.1)),
  ),
)
reply_low v (replies.Received s i n) h = subst (λ (l : List ℕ). IsLow (32 ∷ l)) (received_text s i n) (
  omega arith,
  (
    omega arith,
    low_num s (num i (num n [])) (omega (arith, h.1)) (low_num i (num n []) (omega (
      arith,
      h.2,
    )) (low_num n [] (omega (arith, h.3)) tt)),
  ),
)
reply_low v (replies.Ledger n) h = subst (λ (l : List ℕ). IsLow (32 ∷ l)) (one_text n) (
  omega arith,
  (
    omega arith,
    low_num n [] (omega (arith, h.1)) tt,
  ),
)
reply_low v (replies.Assertions a b) h = subst (λ (l : List ℕ). IsLow (32 ∷ l)) (two_text a b) (
  omega arith,
  (omega arith, low_num a (num b []) (omega (arith, h.1)) (low_num b [] (omega (arith, h.2)) tt)),
)
reply_low v (replies.Live a b) h = subst (λ (l : List ℕ). IsLow (32 ∷ l)) (two_text a b) (
  omega arith,
  (
    omega arith,
    low_num a (num b []) (omega (arith, h.1)) (low_num b [] (omega (arith, h.2)) tt),
  ),
)
reply_low v (replies.Refused c) h = let w = refusal_word c.number h in
    subst (λ (l : List ℕ). IsLow (32 ∷ l)) w.1.word (low_word w.0 (above_plain w.0 w.1.plain))

pub call_low : (t n : ℕ) (v : Word) (r : Reply) → IsEntry 2 (entries.Call t n v r) → IsLow (call_rest t n v r)
call_low t n v r h =
    low_num t (num n (said (word_text v) (32 ∷ reply_text r))) (omega (
      arith,
      h.0.1,
    )) (low_num n (said (word_text v) (32 ∷ reply_text r)) (omega (arith, h.1.1))
    (low_said (word_text v) (32 ∷ reply_text r) (above_plain (word_text v) (verb_plain v)) (reply_low v r h.3)))

pub call_again : (t n : ℕ) (v : Word) (r : Reply) → IsEntry 2 (entries.Call t n v r)
    → call_of (call_rest t n v r) ≡ Some (entries.Call t n v r)
unfolding call_of called_of
call_again t n v r h =
    rw (
      ordinal_at_again t (num n (said (word_text v) (32 ∷ reply_text r))) h.0 (a_space _),
      ordinal_at_again n (said (word_text v) (32 ∷ reply_text r)) h.1 (a_space _),
      said_again (word_text v) (32 ∷ reply_text r) (above_plain (word_text v) (verb_plain v)) (a_space _),
      verb_again v,
      reply_again v r h.3,
    ) refl

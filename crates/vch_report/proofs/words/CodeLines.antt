-- Words of a line and codes of replies, both ways.
use Rattle.std.proofs.Common.{◌≡◌, ℕ, ◌^◌, ◌<◌, ℤ, Bool, true, false, ◌&&◌, leb, List, [], ◌∷◌, length, slice_index, Some, refl, sym, ap, subst, ◌∙◌, arith, codes, inl, inr}
use Rattle.std.proofs.lemmas.Grind.{common_steps}
use Rattle.std.specs.List.{AllByRecursion}
use Rattle.std.specs.Fmt.{decimal, signed_decimal}
use Rattle.vch_base.specs.declared.codes.TheConstants.{KERN_INVALID_ARGUMENT, KERN_FAILURE, KERN_RESOURCE_SHORTAGE, KERN_NO_ACCESS, KERN_INVALID_NAME, KERN_INVALID_CAPABILITY, MIG_ARRAY_TOO_LARGE, MACH_SEND_INVALID_DEST, MACH_SEND_TIMED_OUT, MACH_SEND_INVALID_VOUCHER, MACH_RCV_TIMED_OUT}
use Rattle.vch_base.specs.declared.fault.Code.{Code}
use Rattle.vch_model.specs.declared.call.Word.{Word}
use Rattle.vch_model.specs.declared.call.Word.TheVariants as words
use Rattle.vch_model.specs.Text.{word_text}
use Rattle.vch_model.specs.Grammar.{IsDecimal, value_after}
use Rattle.vch_text.specs.Words.{is_word}
use Rattle.vch_text.proofs.CallerLemmas.{Told, told_test, both, word_true, above, numeral_decimal}
use Rattle.vch_report.specs.Replies.{verb_of, code_of, coded}
use Rattle.vch_model.specs.WellFormed.{refusals, IsOneOf, IsRefusal}

-- ---- words and codes

pub verb_told : (w : List ℕ) → Told (λ v. w ≡ word_text v) (verb_of w)
unfolding verb_of
verb_told w =
    told_test (λ v. w ≡ word_text v) (is_word w (codes "create")) _ _ (λ t. word_true w (codes "create") t)
    (λ f. told_test (λ v. w ≡ word_text v) (is_word w (codes "drop")) _ _ (λ t. word_true w (codes "drop") t)
    (λ f. told_test (λ v. w ≡ word_text v) (is_word w (codes "extract")) _ _ (λ t. word_true w (codes "extract") t)
    (λ f. told_test (λ v. w ≡ word_text v) (is_word w (codes "recipes")) _ _ (λ t. word_true w (codes "recipes") t)
    (λ f. told_test (λ v. w ≡ word_text v) (is_word w (codes "send")) _ _ (λ t. word_true w (codes "send") t)
    (λ f. told_test (λ v. w ≡ word_text v) (is_word w (codes "recv")) _ _ (λ t. word_true w (codes "recv") t)
    (λ f. told_test (λ v. w ≡ word_text v) (is_word w (codes "extern")) _ _ (λ t. word_true w (codes "extern") t)
    (λ f. told_test (λ v. w ≡ word_text v) (is_word w (codes "charge")) _ _ (λ t. word_true w (codes "charge") t)
    (λ f. told_test (λ v. w ≡ word_text v) (is_word w (codes "ledger")) _ _ (λ t. word_true w (codes "ledger") t)
    (λ f. told_test (λ v. w ≡ word_text v) (is_word w (codes "assertions")) _ _
    (λ t. word_true w (codes "assertions") t)
    (λ f. told_test (λ v. w ≡ word_text v) (is_word w (codes "live")) _ _ (λ t. word_true w (codes "live") t)
    (λ f. told_test (λ v. w ≡ word_text v) (is_word w (codes "exit")) _ _ (λ t. word_true w (codes "exit") t)
    (λ f. tt))))))))))))

pub verb_again : (v : Word) → verb_of (word_text v) ≡ Some v
unfolding verb_of is_word
verb_again words.Create = refl
verb_again words.GiveUp = refl
verb_again words.Extract = refl
verb_again words.Recipes = refl
verb_again words.Send = refl
verb_again words.Recv = refl
verb_again words.Extern = refl
verb_again words.Charge = refl
verb_again words.Ledger = refl
verb_again words.Assertions = refl
verb_again words.Live = refl
verb_again words.Exit = refl

pub verb_plain : (v : Word) → above (word_text v) ≡ true
verb_plain words.Create = refl
verb_plain words.GiveUp = refl
verb_plain words.Extract = refl
verb_plain words.Recipes = refl
verb_plain words.Send = refl
verb_plain words.Recv = refl
verb_plain words.Extern = refl
verb_plain words.Charge = refl
verb_plain words.Ledger = refl
verb_plain words.Assertions = refl
verb_plain words.Live = refl
verb_plain words.Exit = refl

-- the digits of a text in quotes, which computes
abbrev is_decimal : List ℕ → Bool
is_decimal [] = true
is_decimal (c ∷ w) = leb 48 c && (leb c 57 && is_decimal w)

decimal_by : (w : List ℕ) → is_decimal w ≡ true → IsDecimal w
decimal_by [] e = tt
decimal_by (c ∷ w) e =
    let a = both (leb 48 c) (leb c 57 && is_decimal w) e in
    let b = both (leb c 57) (is_decimal w) a.1 in
    let low = a.0 in
    let high = b.0 in
    (grind (arith, common_steps), grind (arith, common_steps), decimal_by w b.1)

literal : (w : List ℕ) (n : ℕ) → is_decimal w ≡ true → 0 < length w → 48 < slice_index w 0 → value_after 0 w ≡ n
    → n < 10 ^ 64 → w ≡ decimal n
literal w n d some first v lt = numeral_decimal w n (record {
  digits = decimal_by w d;
  some = some;
  plain = λ e. absurd (omega arith);
  value = v;
}) lt

-- a code and its word
pub record CodeWord (w : List ℕ) (n : ℤ) : Type 0 where
  pub word : w ≡ signed_decimal n
  pub read : code_of w ≡ coded n
  pub plain : above w ≡ true
  pub other : is_word w (codes "0") ≡ false

code_4 : CodeWord (codes "4") KERN_INVALID_ARGUMENT
unfolding code_of is_word
code_4 = record {
  word = literal (codes "4") 4 refl (omega arith) (omega arith) refl (omega arith);
  read = refl;
  plain = refl;
  other = refl;
}

code_5 : CodeWord (codes "5") KERN_FAILURE
unfolding code_of is_word
code_5 = record {
  word = literal (codes "5") 5 refl (omega arith) (omega arith) refl (omega arith);
  read = refl;
  plain = refl;
  other = refl;
}

code_6 : CodeWord (codes "6") KERN_RESOURCE_SHORTAGE
unfolding code_of is_word
code_6 = record {
  word = literal (codes "6") 6 refl (omega arith) (omega arith) refl (omega arith);
  read = refl;
  plain = refl;
  other = refl;
}

code_8 : CodeWord (codes "8") KERN_NO_ACCESS
unfolding code_of is_word
code_8 = record {
  word = literal (codes "8") 8 refl (omega arith) (omega arith) refl (omega arith);
  read = refl;
  plain = refl;
  other = refl;
}

code_15 : CodeWord (codes "15") KERN_INVALID_NAME
unfolding code_of is_word
code_15 = record {
  word = literal (codes "15") 15 refl (omega arith) (omega arith) refl (omega arith);
  read = refl;
  plain = refl;
  other = refl;
}

code_20 : CodeWord (codes "20") KERN_INVALID_CAPABILITY
unfolding code_of is_word
code_20 = record {
  word = literal (codes "20") 20 refl (omega arith) (omega arith) refl (omega arith);
  read = refl;
  plain = refl;
  other = refl;
}

code_array : CodeWord (codes "-307") MIG_ARRAY_TOO_LARGE
unfolding code_of is_word
code_array = record {
  word = ap
      (λ l. 45 ∷ l) (literal (codes "307") 307 refl (omega arith) (omega arith) refl (omega arith));
  read = refl;
  plain = refl;
  other = refl;
}

code_task : CodeWord (codes "268435459") MACH_SEND_INVALID_DEST
unfolding code_of is_word
code_task = record {
  word = literal (codes "268435459") 268435459 refl (omega arith) (omega arith) refl
      (omega arith);
  read = refl;
  plain = refl;
  other = refl;
}

code_full : CodeWord (codes "268435460") MACH_SEND_TIMED_OUT
unfolding code_of is_word
code_full = record {
  word = literal (codes "268435460") 268435460 refl (omega arith) (omega arith) refl
      (omega arith);
  read = refl;
  plain = refl;
  other = refl;
}

code_voucher : CodeWord (codes "268435461") MACH_SEND_INVALID_VOUCHER
unfolding code_of is_word
code_voucher = record {
  word = literal (codes "268435461") 268435461 refl (omega arith) (omega arith) refl
      (omega arith);
  read = refl;
  plain = refl;
  other = refl;
}

code_empty : CodeWord (codes "268451843") MACH_RCV_TIMED_OUT
unfolding code_of is_word
code_empty = record {
  word = literal (codes "268451843") 268451843 refl (omega arith) (omega arith) refl
      (omega arith);
  read = refl;
  plain = refl;
  other = refl;
}

-- ---- each code of the table

abbrev HasWord : ℤ → Type 0
HasWord n = (w : List ℕ) × CodeWord w n

all_words : AllByRecursion HasWord refusals
all_words = (
  (codes "4", code_4),
  (
    (codes "5", code_5),
    (
      (codes "6", code_6),
      (
        (codes "8", code_8),
        (
          (codes "15", code_15),
          (
            (codes "20", code_20),
            (
              (codes "-307", code_array),
              (
                (codes "268435459", code_task),
                (
                  (codes "268435460", code_full),
                  (
                    (codes "268435461", code_voucher),
                    ((codes "268451843", code_empty), tt),
                  ),
                ),
              ),
            ),
          ),
        ),
      ),
    ),
  ),
)

word_among : (cs : List ℤ) → AllByRecursion HasWord cs → (n : ℤ) → IsOneOf cs n → HasWord n
word_among [] h n i = absurd i
word_among (c ∷ cs) h n (inl e) = subst HasWord (sym e) h.0
word_among (c ∷ cs) h n (inr i) = word_among cs h.1 n i

pub refusal_word : (n : ℤ) → IsRefusal n → HasWord n
refusal_word n h = word_among refusals all_words n h

-- a code that is read
pub record IsCode (w : List ℕ) (c : Code) : Type 0 where
  pub word : w ≡ signed_decimal c.number
  pub refusal : IsRefusal c.number

code_at : (w v : List ℕ) (n : ℤ) → CodeWord v n → IsRefusal n → is_word w v ≡ true → IsCode w (record { number = n })
code_at w v n c r t = record { word = word_true w v t ∙ c.word; refusal = r }

pub code_told : (w : List ℕ) → Told (λ c. IsCode w c) (code_of w)
unfolding code_of
code_told w =
    told_test (λ c. IsCode w c) (is_word w (codes "4")) _ _ (λ t. code_at w (codes "4") KERN_INVALID_ARGUMENT code_4 (inl refl) t)
    (λ f. told_test (λ c. IsCode w c) (is_word w (codes "5")) _ _
    (λ t. code_at w (codes "5") KERN_FAILURE code_5 (inr (inl refl)) t)
    (λ f. told_test (λ c. IsCode w c) (is_word w (codes "6")) _ _
    (λ t. code_at w (codes "6") KERN_RESOURCE_SHORTAGE code_6 (inr (inr (inl refl))) t)
    (λ f. told_test (λ c. IsCode w c) (is_word w (codes "8")) _ _
    (λ t. code_at w (codes "8") KERN_NO_ACCESS code_8 (inr (inr (inr (inl refl)))) t)
    (λ f. told_test (λ c. IsCode w c) (is_word w (codes "15")) _ _
    (λ t. code_at w (codes "15") KERN_INVALID_NAME code_15 (inr (inr (inr (inr (inl refl))))) t)
    (λ f. told_test (λ c. IsCode w c) (is_word w (codes "20")) _ _
    (λ t. code_at w (codes "20") KERN_INVALID_CAPABILITY code_20 (inr (inr (inr (inr (inr (inl refl)))))) t)
    (λ f. told_test (λ c. IsCode w c) (is_word w (codes "-307")) _ _
    (λ t. code_at w (codes "-307") MIG_ARRAY_TOO_LARGE code_array (inr (inr (inr (inr (inr (inr (inl refl))))))) t)
    (λ f. told_test (λ c. IsCode w c) (is_word w (codes "268435459")) _ _
    (λ t. code_at w (codes "268435459") MACH_SEND_INVALID_DEST code_task (inr (inr (inr (inr (inr (inr (inr
    (inl refl)))))))) t)
    (λ f. told_test (λ c. IsCode w c) (is_word w (codes "268435460")) _ _
    (λ t. code_at w (codes "268435460") MACH_SEND_TIMED_OUT code_full (inr (inr (inr (inr (inr (inr (inr (inr
    (inl refl))))))))) t)
    (λ f. told_test (λ c. IsCode w c) (is_word w (codes "268435461")) _ _
    (λ t. code_at w (codes "268435461") MACH_SEND_INVALID_VOUCHER code_voucher (inr (inr (inr (inr (inr (inr (inr (inr
    (inr (inl refl)))))))))) t)
    (λ f. told_test (λ c. IsCode w c) (is_word w (codes "268451843")) _ _
    (λ t. code_at w (codes "268451843") MACH_RCV_TIMED_OUT code_empty (inr (inr (inr (inr (inr (inr (inr (inr (inr
    (inr (inl refl))))))))))) t) (λ f. tt)))))))))))

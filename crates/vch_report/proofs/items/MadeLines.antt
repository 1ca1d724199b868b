-- What stands behind the word `made`, both ways.
use Rattle.std.proofs.Common.{◌≡◌, ◌⊎◌, inl, inr, ℕ, ◌+◌, ◌<◌, ◌≤◌, Bool, true, false, cond, eqb, List, [], ◌∷◌, ◌++◌, length, Option, Some, None, refl, sym, ap, subst, ◌∙◌, arith, codes, append-nil}
use Rattle.std.proofs.lemmas.Grind.{common_steps}
use Rattle.std.proofs.lemmas.Fmt.{decimal_digit}
use Rattle.std.specs.Fmt.{decimal}
use Rattle.hex.specs.Hex.{IsBytes}
use Rattle.vch_base.specs.declared.value.Value.{Value}
use Rattle.vch_base.specs.declared.value.Value.TheVariants as values
use Rattle.vch_base.specs.declared.key.Key.{Key}
use Rattle.vch_base.specs.declared.key.Key.TheVariants as keys
use Rattle.vch_base.specs.Keys.{key_of}
use Rattle.vch_base.specs.Values.{BelongsAt}
use Rattle.vch_model.specs.declared.entry.Entry.{Entry}
use Rattle.vch_model.specs.declared.entry.Entry.TheVariants as entries
use Rattle.vch_model.specs.Text.{hex_of, value_text, entry_text}
use Rattle.vch_text.specs.Words.{is_word, word_at, end_of}
use Rattle.vch_text.proofs.CallerLemmas.{Told, told_bind, told_test, word_true, word_told, end_told, end_again, above_plain, hex_plain, IsLow}
use Rattle.vch_model.specs.Grammar.{StartsWithLine}
use Rattle.vch_report.specs.Numerals.{ordinal_at, after, bytes_at}
use Rattle.vch_report.specs.Values.{chain_of, user_of, list_of, task_of, account_of, bank_of, made_of}
use Rattle.vch_model.specs.WellFormed.{IsNumber, IsRanged, IsEntry}
use Rattle.vch_report.proofs.words.LineWords.{said, num, no_more, a_space, said_again, low_said, low_word, low_num, OrdinalAt, ordinal_at_told, ordinal_at_again, after_told, after_again, BytesAt, bytes_at_told, bytes_at_again}
use Rattle.vch_report.proofs.words.ChainWords.{chain_text, IsChain, ChainAt, chain_told, chain_again, chain_plain}

-- ---- texts

made_text : (k : ℕ) (x : Value) → k < 10
    → entry_text (entries.Made k x) ≡ codes "made" ++ (32 ∷ ((48 + k) ∷ value_text x))
made_text k x lt = ap (λ (l : List ℕ). (codes "made" ++ (32 ∷ l)) ++ value_text x) (decimal_digit k lt)

abbrev pub behind_made : List ℕ → List ℕ
behind_made rest = codes "made" ++ rest

task_text : (t : ℕ) → value_text (values.Task t) ≡ said (codes "task") (num t [])
task_text t = ap (λ l. codes " task " ++ l) (sym (append-nil (decimal t)))

account_text : (h m : ℕ) → value_text (values.Account h m) ≡ said (codes "account") (num h (num m []))
account_text h m = ap (λ l. codes " account " ++ (decimal h ++ (32 ∷ l))) (sym (append-nil (decimal m)))

-- ---- what is read is so

-- an entry that the line spells
pub record MadeAt (rest : List ℕ) (e : Entry) : Type 0 where
  pub good : IsEntry 2 e
  pub text : behind_made rest ≡ entry_text e

-- a key of user data
abbrev IsUserKey : ℕ → Type 0
IsUserKey k = (bytes : List ℕ) → BelongsAt (key_of 2 k) (values.User bytes)

user_told : (k : ℕ) (rest more : List ℕ) → k < 10 → IsUserKey k → rest ≡ said ((48 + k) ∷ []) more → Told (λ e. MadeAt rest e) (user_of k more)
unfolding user_of
user_told k rest more lt user is =
    told_bind (λ r. more ≡ said (codes "user") r)
    (λ e. MadeAt rest e) (after (codes "user") more) _ (after_told (codes "user") more)
    (λ r a. told_bind (λ b. BytesAt r b) (λ e. MadeAt rest e) (bytes_at r) _ (bytes_at_told r)
    (λ b h. record {
      good = (user b, h.bytes_are);
      text = ap behind_made (is ∙ ap (said ((48 + k) ∷ [])) (a
          ∙ ap (said (codes "user")) h.parts)) ∙ sym (made_text k (values.User b) lt);
    }))

list_told : (rest more : List ℕ) → rest ≡ said (codes "2") more → Told (λ e. MadeAt rest e) (list_of more)
unfolding list_of
list_told rest more k =
    told_bind (λ r. more ≡ said (codes "list") r)
    (λ e. MadeAt rest e) (after (codes "list") more) _ (after_told (codes "list") more)
    (λ r a. told_bind (λ x. StartsWithLine r x.0 x.1) (λ e. MadeAt rest e) (word_at r) _ (word_told r)
    (λ w b. told_bind (λ u. w.1 ≡ []) (λ e. MadeAt rest e) (end_of w.1) _ (end_told w.1)
    (λ u n. told_bind (λ ts. ChainAt w.0 ts) (λ e. MadeAt rest e) (chain_of w.0) _ (chain_told w.0)
    (λ ts c. record {
      good = ((c.is.some, c.is.few), c.is.numbers);
      text =
          let line : r ≡ 32 ∷ chain_text ts = b.parts ∙ ap (said w.0) n ∙ ap (λ l. 32 ∷ l) (append-nil w.0 ∙ c.word) in
          ap behind_made (k ∙ ap (said (codes "2")) (a ∙ ap (said (codes "list")) line))
          ∙ sym (made_text 2 (values.Chain ts) (omega arith));
    }))))

task_told : (rest more tail : List ℕ) → rest ≡ said (codes "3") more → more ≡ said (codes "task") tail
    → Told (λ e. MadeAt rest e) (task_of tail)
unfolding task_of
task_told rest more tail k a =
    told_bind (λ x. OrdinalAt tail x.0 x.1) (λ e. MadeAt rest e) (ordinal_at tail) _ (ordinal_at_told tail)
    (λ t h. told_bind (λ u. t.1 ≡ []) (λ e. MadeAt rest e) (end_of t.1) _ (end_told t.1)
    (λ u n. record {
      good = (tt, h.number);
      text = ap behind_made (k ∙ ap (said (codes "3")) (a ∙ ap (said (codes "task")) (h.parts ∙ ap (num t.0) n)
          ∙ sym (task_text t.0))) ∙ sym (made_text 3 (values.Task t.0) (omega arith));
    }))

account_told : (rest more tail : List ℕ) → rest ≡ said (codes "3") more → more ≡ said (codes "account") tail
    → Told (λ e. MadeAt rest e) (account_of tail)
unfolding account_of
account_told rest more tail k a =
    told_bind (λ x. OrdinalAt tail x.0 x.1) (λ e. MadeAt rest e) (ordinal_at tail) _ (ordinal_at_told tail)
    (λ t h. told_bind (λ x. OrdinalAt t.1 x.0 x.1) (λ e. MadeAt rest e) (ordinal_at t.1) _ (ordinal_at_told t.1)
    (λ m g. told_bind (λ u. m.1 ≡ []) (λ e. MadeAt rest e) (end_of m.1) _ (end_told m.1)
    (λ u n. record {
      good = (tt, (h.number, g.number));
      text = ap behind_made (k ∙ ap (said (codes "3")) (a ∙ ap (said (codes "account")) (h.parts
          ∙ ap (num t.0) (g.parts ∙ ap (num m.0) n)) ∙ sym (account_text t.0 m.0)))
          ∙ sym (made_text 3 (values.Account t.0 m.0) (omega arith));
    })))

bank_told : (rest more : List ℕ) → rest ≡ said (codes "3") more → Told (λ e. MadeAt rest e) (bank_of more)
unfolding bank_of
bank_told rest more k =
    told_bind (λ x. StartsWithLine more x.0 x.1) (λ e. MadeAt rest e) (word_at more) _ (word_told more)
    (λ w b. told_test (λ e. MadeAt rest e) (is_word w.0 (codes "task")) (task_of w.1) _
    (λ t. task_told rest more w.1 k (b.parts ∙ ap (λ l. said l w.1) (word_true w.0 (codes "task") t)))
    (λ f. told_test (λ e. MadeAt rest e) (is_word w.0 (codes "account")) (account_of w.1) None
    (λ t. account_told rest more w.1 k (b.parts
    ∙ ap (λ l. said l w.1) (word_true w.0 (codes "account") t))) (λ f. tt)))

pub made_told : (rest : List ℕ) → Told (λ e. MadeAt rest e) (made_of rest)
unfolding made_of
made_told rest =
    told_bind (λ x. StartsWithLine rest x.0 x.1) (λ e. MadeAt rest e) (word_at rest) _ (word_told rest)
    (λ w b. told_test (λ e. MadeAt rest e) (is_word w.0 (codes "7")) (user_of 7 w.1) _
    (λ t. user_told 7 rest w.1 (omega arith) (λ bytes. tt) (b.parts ∙ ap (λ l. said l w.1) (word_true w.0 (codes "7") t)))
    (λ f. told_test (λ e. MadeAt rest e) (is_word w.0 (codes "8")) (user_of 8 w.1) _
    (λ t. user_told 8 rest w.1 (omega arith) (λ bytes. tt) (b.parts ∙ ap (λ l. said l w.1) (word_true w.0 (codes "8") t)))
    (λ f. told_test (λ e. MadeAt rest e) (is_word w.0 (codes "2")) (list_of w.1) _
    (λ t. list_told rest w.1 (b.parts ∙ ap (λ l. said l w.1) (word_true w.0 (codes "2") t)))
    (λ f. told_test (λ e. MadeAt rest e) (is_word w.0 (codes "3")) (bank_of w.1) None
    (λ t. bank_told rest w.1 (b.parts ∙ ap (λ l. said l w.1) (word_true w.0 (codes "3") t))) (λ f. tt)))))

-- ---- what is so is read

-- a key's word and a value behind it
abbrev keyed : ℕ → Value → List ℕ
keyed k x = 32 ∷ ((48 + k) ∷ value_text x)

user_again : (bytes : List ℕ) → IsBytes bytes
    → made_of (keyed 7 (values.User bytes)) ≡ Some (entries.Made 7 (values.User bytes))
unfolding made_of user_of is_word
user_again bytes h =
    rw (
      said_again (codes "7") (value_text (values.User bytes)) (above_plain (codes "7") refl) (a_space _),
      after_again (codes "user") (32 ∷ hex_of bytes) refl (a_space _),
      bytes_at_again bytes h,
    ) refl

test_again : (bytes : List ℕ) → IsBytes bytes
    → made_of (keyed 8 (values.User bytes)) ≡ Some (entries.Made 8 (values.User bytes))
unfolding made_of user_of is_word
test_again bytes h =
    rw (
      said_again (codes "8") (value_text (values.User bytes)) (above_plain (codes "8") refl) (a_space _),
      after_again (codes "user") (32 ∷ hex_of bytes) refl (a_space _),
      bytes_at_again bytes h,
    ) refl

list_again : (ts : List ℕ) → IsChain ts → made_of (keyed 2 (values.Chain ts)) ≡ Some (entries.Made 2 (values.Chain ts))
unfolding made_of list_of is_word
list_again ts h =
    let e : word_at (32 ∷ chain_text ts) ≡ Some (chain_text ts, []) =
    subst (λ (l : List ℕ). word_at (32 ∷ l) ≡ Some (
      chain_text ts,
      [],
    )) (append-nil (chain_text ts)) (said_again (chain_text ts) [] (chain_plain ts h.numbers) no_more) in
    rw (
      said_again (codes "2") (value_text (values.Chain ts)) (above_plain (codes "2") refl) (a_space _),
      after_again (codes "list") (32 ∷ chain_text ts) refl (a_space _),
      e,
      end_again [] refl,
      chain_again ts h,
    ) refl

task_again : (t : ℕ) → IsNumber t → made_of (keyed 3 (values.Task t)) ≡ Some (entries.Made 3 (values.Task t))
unfolding made_of bank_of task_of is_word
task_again t h =
    rw (
      task_text t,
      said_again (codes "3") (said (codes "task") (num t [])) (above_plain (codes "3") refl) (a_space _),
      said_again (codes "task") (num t []) (above_plain (codes "task") refl) (a_space _),
      ordinal_at_again t [] h no_more,
      end_again [] refl,
    ) refl

account_again : (t m : ℕ) → IsNumber t → IsNumber m
    → made_of (keyed 3 (values.Account t m)) ≡ Some (entries.Made 3 (values.Account t m))
unfolding made_of bank_of account_of is_word
account_again t m h g =
    rw (
      account_text t m,
      said_again (codes "3") (said (codes "account") (num t (num m []))) (above_plain (codes "3") refl) (a_space _),
      said_again (codes "account") (num t (num m [])) (above_plain (codes "account") refl) (a_space _),
      ordinal_at_again t (num m []) h (a_space _),
      ordinal_at_again m [] g no_more,
      end_again [] refl,
    ) refl

-- ---- which key it is

abbrev keys_by : Bool → Bool → Bool → Bool → Option Key
keys_by a b c d = cond a (Some keys.Importance) (cond b (Some keys.Bank) (cond c (Some keys.User) (cond d (Some keys.Test) None)))

user_key : (a b c d : Bool) (bytes : List ℕ) → BelongsAt (keys_by a b c d) (values.User bytes) → (c ≡ true) ⊎ (d ≡ true)
user_key true b c d bytes h = absurd h
user_key false true c d bytes h = absurd h
user_key false false true d bytes h = inl refl
user_key false false false true bytes h = inr refl
user_key false false false false bytes h = absurd h

list_key : (a b c d : Bool) (list : List ℕ) → BelongsAt (keys_by a b c d) (values.Chain list)
    → (a ≡ true) × (1 ≤ length list) × (length list ≤ 8)
list_key true b c d list h = (refl, h.0, h.1)
list_key false true c d list h = absurd h
list_key false false true d list h = absurd h
list_key false false false true list h = absurd h
list_key false false false false list h = absurd h

task_key : (a b c d : Bool) (t : ℕ) → BelongsAt (keys_by a b c d) (values.Task t) → b ≡ true
task_key true b c d t h = absurd h
task_key false true c d t h = refl
task_key false false true d t h = absurd h
task_key false false false true t h = absurd h
task_key false false false false t h = absurd h

account_key : (a b c d : Bool) (t m : ℕ) → BelongsAt (keys_by a b c d) (values.Account t m) → b ≡ true
account_key true b c d t m h = absurd h
account_key false true c d t m h = refl
account_key false false true d t m h = absurd h
account_key false false false true t m h = absurd h
account_key false false false false t m h = absurd h

same : (a b : ℕ) → eqb a b ≡ true → a ≡ b
same a b e = grind (arith, common_steps)

-- the line of the value, and that it is read
pub record MadeLine (k : ℕ) (x : Value) : Type 0 where
  pub rest : List ℕ
  pub text : entry_text (entries.Made k x) ≡ codes "made" ++ (32 ∷ rest)
  pub read : made_of (32 ∷ rest) ≡ Some (entries.Made k x)
  pub low : IsLow (32 ∷ rest)

value_low : (x : Value) → IsRanged x → IsLow (value_text x)
value_low (values.User bytes) h = low_said (codes "user") (32 ∷ hex_of bytes) (above_plain (codes "user") refl)
    (low_word (hex_of bytes) (hex_plain bytes h))
value_low (values.Chain list) h = low_said (codes "list") (32 ∷ chain_text list) (above_plain (codes "list") refl)
    (low_word (chain_text list) (chain_plain list h))
value_low values.Default h = absurd h
value_low (values.Task t) h = subst
    (λ (l : List ℕ). IsLow l)
    (sym (task_text t)) (low_said (codes "task") (num t []) (above_plain (codes "task") refl) (low_num t []
    (omega (arith, h.1)) tt))
value_low (values.Account t m) h = subst
    (λ (l : List ℕ). IsLow l)
    (sym (account_text t m)) (low_said (codes "account") (num t (num m [])) (above_plain (codes "account") refl)
    (low_num t (num m []) (omega (arith, h.0.1)) (low_num m [] (omega (arith, h.1.1)) tt)))

line_at : (k n : ℕ) (x : Value) → k ≡ n → n < 10 → IsRanged x → made_of (keyed n x) ≡ Some (entries.Made n x)
    → MadeLine k x
line_at k n x e lt g h = subst (λ (m : ℕ). MadeLine m x) (sym e) (record {
  rest = (48 + n) ∷ value_text x;
  text = made_text n x lt;
  read = h;
  low = (omega arith, (omega arith, value_low x g));
})

pub made_again : (k : ℕ) (x : Value) → IsEntry 2 (entries.Made k x) → MadeLine k x
made_again k (values.User bytes) h =
    elim (user_key (eqb k 2) (eqb k 3) (eqb k 7) (eqb k 8) bytes h.0) [
      | inl c ↦ line_at k 7 (values.User bytes) (same k 7 c) (omega arith) h.1 (user_again bytes h.1)
      | inr d ↦ line_at k 8 (values.User bytes) (same k 8 d) (omega arith) h.1 (test_again bytes h.1)
    ]
made_again k (values.Chain list) h =
    let b = list_key (eqb k 2) (eqb k 3) (eqb k 7) (eqb k 8) list h.0 in
    line_at k 2 (values.Chain list) (same k 2 b.0) (omega arith) h.1 (list_again list (record {
      some = b.1;
      few = b.2;
      numbers = h.1;
    }))
made_again k values.Default h = absurd h.1
made_again k (values.Task t) h = line_at k 3 (values.Task t) (same k 3 (task_key (eqb k 2) (eqb k 3)
    (eqb k 7) (eqb k 8) t h.0)) (omega arith) h.1 (task_again t h.1)
made_again k (values.Account t m) h = line_at k 3 (values.Account t m) (same k 3 (account_key (eqb k 2) (eqb k 3)
    (eqb k 7) (eqb k 8) t m h.0)) (omega arith) h.1 (account_again t m h.1.0 h.1.1)

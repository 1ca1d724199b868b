-- The six numbers of a header and their 24 bytes.
use Rattle.std.proofs.Common.{◌≡◌, ◌+◌, ◌≤◌, ◌<◌, ◌^◌, ℕ, List, [], ◌∷◌, ◌++◌, length, take, drop, refl, sym, ap, ◌∙◌, arith}
use Rattle.std.proofs.lemmas.List.{take-append-drop, drop-drop, drop_all, take_rest}
use Rattle.std.proofs.lemmas.Nat.{from_le_bytes-to_le_bytes_4}
use Rattle.std.specs.List.{flat_map}
use Rattle.byteorder.specs.Endian.{little_bytes, little_number, IsRead}
use Rattle.vch_base.specs.Words.{word}
use Rattle.vch_recipe.specs.Recipes.{word_at}
use Rattle.vch_recipe.proofs.CallerLemmas.{AreBytes, read_number, word_spelled, word_below}
use Rattle.vch_header.specs.Fields.{Fields, Fits, spelling}
use Rattle.vch_header.specs.Headers.{fields_of, fields_in}

-- ---- the numbers that are read

read_at : (bs : List ℕ) (p : ℕ) → p + 4 ≤ length bs → little_number 4 (drop p bs) ≡ word_at p bs
read_at bs p h = sym (ap (λ l. little_number 4 l) (take_rest bs p)) ∙ read_number bs p h

pub numbers_read : (bs ns : List ℕ) → length bs ≡ 24 → length ns ≡ 6 → IsRead little_number 4 bs ns → fields_of ns ≡ fields_in bs
numbers_read bs ns long six r =
    let e0 = r 0 (omega arith) ∙ read_at bs 0 (omega arith) in
    let e1 = r 1 (omega arith) ∙ read_at bs 4 (omega arith) in
    let e2 = r 2 (omega arith) ∙ read_at bs 8 (omega arith) in
    let e3 = r 3 (omega arith) ∙ read_at bs 12 (omega arith) in
    let e4 = r 4 (omega arith) ∙ read_at bs 16 (omega arith) in
    let e5 = r 5 (omega arith) ∙ read_at bs 20 (omega arith) in
    rw (e0, e1, e2, e3, e4, e5) refl

-- ---- bytes are spelled by their numbers

word_more : (bs : List ℕ) (p : ℕ) → p + 4 ≤ length bs → AreBytes bs → drop p bs ≡ word (word_at p bs) ++ drop (p + 4) bs
word_more bs p h small =
    sym (take-append-drop 4 (drop p bs)) ∙ ap (λ l. take 4 (drop p bs) ++ l) (drop-drop 4 p bs)
    ∙ ap (λ l. l ++ drop (p + 4) bs) (sym (word_spelled bs p h small))

pub spelled_by : (bs : List ℕ) → length bs ≡ 24 → AreBytes bs → bs ≡ spelling (fields_in bs)
spelled_by bs long small =
    let a = word (word_at 0 bs) in
    let b = word (word_at 4 bs) in
    let c = word (word_at 8 bs) in
    let d = word (word_at 12 bs) in
    let e = word (word_at 16 bs) in
    let f = word (word_at 20 bs) in
    let e5 : drop 20 bs ≡ f ++ [] = word_more bs 20 (omega arith) small ∙ ap (λ l. f ++ l) (drop_all 24 bs (omega arith)) in
    let e4 : drop 16 bs ≡ e ++ (f ++ []) = word_more bs 16 (omega arith) small ∙ ap (λ l. e ++ l) e5 in
    let e3 : drop 12 bs ≡ d ++ (e ++ (f ++ [])) = word_more bs 12 (omega arith) small ∙ ap (λ l. d ++ l) e4 in
    let e2 : drop 8 bs ≡ c ++ (d ++ (e ++ (f ++ []))) = word_more bs 8 (omega arith) small ∙ ap (λ l. c ++ l) e3 in
    let e1 : drop 4 bs ≡ b ++ (c ++ (d ++ (e ++ (f ++ [])))) = word_more bs 4 (omega arith) small ∙ ap (λ l. b ++ l) e2 in
    word_more bs 0 (omega arith) small ∙ ap (λ l. a ++ l) e1

pub bytes_fit : (bs : List ℕ) → length bs ≡ 24 → AreBytes bs → Fits (fields_in bs)
bytes_fit bs long small = record {
  bits = word_below bs 0 (omega arith) small;
  size = word_below bs 4 (omega arith) small;
  remote = word_below bs 8 (omega arith) small;
  local = word_below bs 12 (omega arith) small;
  voucher = word_below bs 16 (omega arith) small;
  id = word_below bs 20 (omega arith) small;
}

-- ---- a spelling reads as its numbers

bits_again : (h : Fields) → h.bits < 2 ^ 32 → word_at 0 (spelling h) ≡ h.bits
unfolding word word_at
bits_again h lt = from_le_bytes-to_le_bytes_4 h.bits lt

size_again : (h : Fields) → h.size < 2 ^ 32 → word_at 4 (spelling h) ≡ h.size
unfolding word word_at
size_again h lt = from_le_bytes-to_le_bytes_4 h.size lt

remote_again : (h : Fields) → h.remote < 2 ^ 32 → word_at 8 (spelling h) ≡ h.remote
unfolding word word_at
remote_again h lt = from_le_bytes-to_le_bytes_4 h.remote lt

local_again : (h : Fields) → h.local < 2 ^ 32 → word_at 12 (spelling h) ≡ h.local
unfolding word word_at
local_again h lt = from_le_bytes-to_le_bytes_4 h.local lt

voucher_again : (h : Fields) → h.voucher < 2 ^ 32 → word_at 16 (spelling h) ≡ h.voucher
unfolding word word_at
voucher_again h lt = from_le_bytes-to_le_bytes_4 h.voucher lt

id_again : (h : Fields) → h.id < 2 ^ 32 → word_at 20 (spelling h) ≡ h.id
unfolding word word_at
id_again h lt = from_le_bytes-to_le_bytes_4 h.id lt

pub fields_again : (h : Fields) → Fits h → fields_in (spelling h) ≡ h
fields_again h f = rw (bits_again h f.bits, size_again h f.size, remote_again h f.remote, local_again h f.local, voucher_again h f.voucher, id_again h f.id) refl

pub spelling_long : (h : Fields) → length (spelling h) ≡ 24
unfolding word
spelling_long h = refl

-- ---- the bytes that are written

six_written : (h : Fields) → flat_map (little_bytes 4) (h.bits ∷ h.size ∷ h.remote ∷ h.local ∷ h.voucher ∷ h.id ∷ []) ≡ spelling h
unfolding word
six_written h = refl

pub words_written : (h : Fields) (a b c d e f : ℕ) → a ≡ h.bits → b ≡ h.size → c ≡ h.remote → d ≡ h.local → e ≡ h.voucher → f ≡ h.id
    → flat_map (little_bytes 4) (a ∷ b ∷ c ∷ d ∷ e ∷ f ∷ []) ≡ spelling h
words_written h a b c d e f p q r s t u = let same : a ∷ b ∷ c ∷ d ∷ e ∷ f ∷ [] ≡ h.bits ∷ h.size ∷ h.remote ∷ h.local ∷ h.voucher ∷ h.id ∷ [] = cc in ap (λ l. flat_map (little_bytes 4) l) same ∙ six_written h

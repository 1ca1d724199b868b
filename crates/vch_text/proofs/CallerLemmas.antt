-- What other crates cite of the lemmas of this one.
pub use Rattle.vch_text.proofs.Decimals.{decimal_numeral, ends, numeral_decimal, numeral_is}
pub use Rattle.vch_text.proofs.Fronts.{front_sep, front_none}
pub use Rattle.vch_text.proofs.Hexes.{hex_told, hex_again}
pub use Rattle.vch_text.proofs.NumbersBack.{NumberAt, OneRead, TwoRead, IsRead, number_told, number_again, number_at_told, number_at_again, one_told, one_again, two_told, two_again}
pub use Rattle.vch_text.proofs.Plain.{IsPlain, IsLow, plain_word, above_plain, decimal_plain, hex_plain, hex_spelled, low_append, split_line, above}
pub use Rattle.vch_text.proofs.Splits.{front_whole, split_joined}
pub use Rattle.vch_text.proofs.Told.{word_true, both, word_same, word_false, Told, told_bind, told_test, told_map}
pub use Rattle.vch_text.proofs.WordsBack.{spelled_follows, Follows, front_word, front_again, word_told, word_again, end_told, end_again}

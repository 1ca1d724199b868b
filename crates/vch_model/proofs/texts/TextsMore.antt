-- The texts, by computation.
use Rattle.std.proofs.Common.{refl}
use Rattle.std.specs.Fmt.{digits}
use Rattle.hex.specs.Hex.{encode_with}
use Rattle.vch_base.specs.Words.{word}
use Rattle.vch_recipe.specs.Recipes.{word_at}
use Rattle.vch_model.specs.Eval.{create, eval_all}
use Rattle.vch_model.specs.Text.{report_text}
use Rattle.vch_model.specs.Canonical.{Canon}
use Rattle.vch_model.specs.TextsMore.{TextsMore}

pub texts_more : TextsMore
unfolding create eval_all word_at word report_text digits encode_with Canon
texts_more = record { told_of_four = refl; told_of_exit = refl; told_of_gone = refl; each_call = refl }

use Rattle.vch_generate.proofs.Written.{generated_written}
use Rattle.vch_generate.proofs.laws.generated_is_writable.Goals as goal

pub returns : goal.returns
returns c = generated_written

-- What holds where there was memory.
use Rattle.std.proofs.Common.{Result, Ok, Err, OnOk, IfOk}
use Rattle.vch_base.specs.declared.fault.NoMemory.{NoMemory}
use Rattle.vch_machine.specs.State.{Tally}

pub on_ok : {A : Type 0} {P Q : Type 0} (r : Result A NoMemory) → OnOk r P → (P → Q) → OnOk r Q
on_ok (Ok n) p f = f p
on_ok (Err e) p f = tt

-- the same of a fact about all tallies
pub on_all : {A : Type 0} {P : Tally → Type 0} {Q : Type 0} (r : Result A NoMemory) → ((c : Tally) → OnOk r (P c)) → (((c : Tally) → P c) → Q) → OnOk r Q
on_all (Ok n) p f = f p
on_all (Err e) p f = tt

-- the same of a fact about what was answered
pub if_ok : {A : Type 0} {P Q : A → Type 0} (r : Result A NoMemory) → IfOk r P → ((x : A) → P x → Q x) → IfOk r Q
if_ok (Ok n) p f = f n p
if_ok (Err e) p f = tt

-- FaultsInText.
use Rattle.semantics.proofs.Numbers.{faults_in_text}
use Rattle.semantics.proofs.theorems.faults_in_text.Goals as goal

pub returns : goal.returns
returns c = faults_in_text

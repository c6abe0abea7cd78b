-- The number of every refusal.
use Rattle.std.specs.Prelude.{ℕ, List, codes}
use Rattle.accounts.specs.declared.refusal.AccountRefusal.{AccountRefusal}
use Rattle.accounts.specs.declared.refusal.AccountRefusal.TheVariants.{WindowRange, SlotsRange, LargestRange, SizeRange, WindowSpent, RunOver}

-- the number by which a caller knows a refusal
abbrev pub number_of : AccountRefusal → ℕ
number_of WindowRange = 1
number_of SlotsRange = 3
number_of LargestRange = 4
number_of SizeRange = 10
number_of WindowSpent = 11
number_of RunOver = 12

-- what a reader sees of it
abbrev pub text_of : AccountRefusal → List ℕ
text_of WindowRange = codes "window not 2 to 8 frames"
text_of SlotsRange = codes "slots not 1 to 4096"
text_of LargestRange = codes "largest packet not 1 to 64 flits"
text_of SizeRange = codes "packet empty or too large"
text_of WindowSpent = codes "window spent"
text_of RunOver = codes "run over"

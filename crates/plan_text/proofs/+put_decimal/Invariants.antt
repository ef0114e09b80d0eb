-- The last digit comes after the number without it. The measure is the number.
use Rattle.plan_text.proofs.+put_decimal.Given as goal

abbrev pub decreases-put_decimal : goal.decreases-put_decimal
decreases-put_decimal l = l.n

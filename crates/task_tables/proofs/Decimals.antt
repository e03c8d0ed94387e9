-- Numbers that are written in decimal are read as themselves.
use Rattle.std.proofs.Common.{refl}
use Rattle.task_tables.specs.Tasks.{DecimalsRead}
use Rattle.numerals.proofs.NumberOf.{decimal_digits}

pub decimals_read : DecimalsRead
decimals_read n w d p j =
    rw (
      (decimal_digits n.work w).2,
      (decimal_digits n.deadline d).2,
      (decimal_digits n.period p).2,
      (decimal_digits n.jitter j).2,
    ) refl

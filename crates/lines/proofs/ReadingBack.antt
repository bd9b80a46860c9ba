-- What a number's text reads back as.
use Rattle.std.proofs.Common.{ℕ, ◌^◌, ◌<◌, decimal, rules}
use Rattle.std.proofs.lemmas.Fmt.{decimal_nonempty, digits_decimal, digits_value-decimal, first_decimal}
use Rattle.std.proofs.lemmas.Str.Parse.{IsNumeralModel, FoldsDigits, tells_by_index, numerals_by_fold}
use Rattle.lines.specs.Digits.{read_on, AllDigits, ReadAs}

folds : FoldsDigits read_on
folds = search rules

own : IsNumeralModel AllDigits (read_on 0)
own = numerals_by_fold AllDigits tells_by_index read_on folds

pub decimal_reads_back : (n : ℕ) → n < 2 ^ 64 → ReadAs n (decimal n)
decimal_reads_back n h = record {
  some = decimal_nonempty n h;
  digits = digits_decimal own n h;
  back = digits_value-decimal own n h;
  plain = λ more. first_decimal n more h;
}

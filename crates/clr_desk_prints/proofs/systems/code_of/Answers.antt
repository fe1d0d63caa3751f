use Rattle.std.proofs.Common.{◌≡◌, None, Some, sym}
use Rattle.clr_records.specs.Decimals.{number_of}
use Rattle.clr_desk_prints.proofs.Codes.{decimal_again, decimal_form, fits_again, same_number}
use Rattle.clr_desk_prints.proofs.systems.code_of.Goals as goal

pub returns-in_err-number-clause-no_other : goal.returns-in_err-number-clause-no_other
returns-in_err-number-clause-no_other c = λ _ code low is.
    let none = decimal_again c.args.digits.now None code (sym c.in_err-number.ensures) low is in
    absurd cc

pub returns-in-Ok-clause-named : goal.returns-in-Ok-clause-named
returns-in-Ok-clause-named c =
    let digits = c.args.digits.now in
    let n = c.in_ok-number.number in
    let read : number_of digits ≡ Some n = sym c.in_ok-number.ensures in
    let told = rw (same_number digits n read) at c.in-Ok.ensures in
    decimal_form digits n c.in-Ok.code read told.0 told.1

pub returns-in-Err-clause-no_other : goal.returns-in-Err-clause-no_other
returns-in-Err-clause-no_other c = λ _ code low is.
    let digits = c.args.digits.now in
    let n = c.in_ok-number.number in
    let read : number_of digits ≡ Some n = sym c.in_ok-number.ensures in
    let told = rw (same_number digits n read) at c.in-Err.ensures in
    told (fits_again digits n code read low is)

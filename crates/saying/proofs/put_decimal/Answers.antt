-- `saying::put_decimal` meets its contract: the digits of `io::decimal`, copied. Assumes nothing.
use Rattle.std.proofs.Common.{◌≡◌, ◌≤◌, ◌∙◌, length, sym, ap, rules}
use Rattle.io.specs.Digits.{last_digits}
use Rattle.saying.specs.Text.{decimal}
use Rattle.saying.proofs.Decimal.{length_digits, at_most_20, decimal_is}
use Rattle.saying.proofs.put_decimal.Goals as goal

pub returns : goal.returns
returns c =
    let n = c.args.n in
    let k = c.decimal-k.result in
    let small : k ≤ 20 = at_most_20 k n (search rules) c.decimal-k.ensures.len in
    let e : last_digits 10 k n ≡ decimal n = decimal_is k n small c.decimal-k.ensures.len in
    record {
      long = sym (length_digits k n) ∙ ap length e;
      fits = small;
      is = rw (c.decimal-k.ensures.digits ∙ e) at c.put_front.ensures;
    }

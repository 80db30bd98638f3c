use Rattle.std.proofs.Common.{◌≡◌, length, rules}
use Rattle.sib1.proofs.Written.{two_puts, three_puts}
use Rattle.sib1.proofs.write_plmns.put_mnc.Goals as goal

pub returns-in-Two : goal.returns-in-Two
returns-in-Two c =
    let size : length c.in-Two.digits ≡ 2 = search rules in
    two_puts c.args.code.now c.in-Two.digits c.args.sheet.now c.flag.new.self c.put_digits.new.sheet c.in-Two.is size c.flag.ensures c.put_digits.ensures

pub returns-in-Three : goal.returns-in-Three
returns-in-Three c =
    let size : length c.in-Three.digits ≡ 3 = search rules in
    three_puts c.args.code.now c.in-Three.digits c.args.sheet.now c.flag-in-Three.new.self c.put_digits-in-Three.new.sheet c.in-Three.is size c.flag-in-Three.ensures c.put_digits-in-Three.ensures

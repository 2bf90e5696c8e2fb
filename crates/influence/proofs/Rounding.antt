-- How far the rounded fourth power is from the exact one.
use Rattle.std.proofs.Common.{ℕ, ◌+◌, ◌*◌, ◌^◌, ◌<◌, ◌≤◌, mul-le-mul_right, mul-le-mul, arith}
use Rattle.fractions.proofs.Powers.{pow_five}
use Rattle.roots.specs.Roots.{second, fourth}

-- c^4 is at most 10^12 times the fourth step
pub fourth_least : (c : ℕ) → c * c * (c * c) ≤ fourth c * 10 ^ 12
fourth_least c =
    let h : c * c ≤ 100 * second c = omega arith in
    let k : second c * second c ≤ 100000000 * fourth c = omega arith in
    omega (arith, mul-le-mul h h, k)

-- 10^12 times the fourth step is little more than c^4
pub fourth_most : (c : ℕ) → fourth c * 10 ^ 12 ≤ (c * c + 99) * (c * c + 99) + 10 ^ 12
fourth_most c =
    let h : 100 * second c ≤ c * c + 99 = omega arith in
    let k : 100000000 * fourth c ≤ second c * second c + 99999999 = omega arith in
    omega (arith, mul-le-mul h h, k)

-- half more than e, to the fifth power, makes up for the rounding
pub fifth_slack : (e b : ℕ) → 10 ^ 5 ≤ e → b * 10 ^ 7 < fourth e * e → 32 * (b + 2) * 10 ^ 19 ≤ (2 * e + 1) ^ 5
fifth_slack e b large most =
    let x : fourth e * 10 ^ 12 * e ≤ ((e * e + 99) * (e * e + 99) + 10 ^ 12) * e = mul-le-mul_right e (fourth_most e) in
    let e1 : 10 ^ 5 * (e * e * e) ≤ e * (e * e * e) = mul-le-mul_right (e * e * e) large in
    let e2 : 10 ^ 5 * 10 ^ 5 ≤ e * e = mul-le-mul large large in
    let e3 : 10 ^ 5 * 10 ^ 5 * 10 ^ 5 * e ≤ e * e * e * e = mul-le-mul_right e (mul-le-mul e2 large) in
    let e4 : 10 ^ 5 * 10 ^ 5 * (10 ^ 5 * 10 ^ 5) ≤ e * e * (e * e) = mul-le-mul e2 e2 in
    rw (pow_five (2 * e + 1)) (omega (arith, x, e1, e3, e4, most))

use Rattle.std.proofs.Common.{◌≡◌, ℕ, ◌/◌, ◌%◌, ◌^◌, ◌<◌, ap, ◌∙◌, arith, rules, cond, eqb, get_or, length}
use Rattle.klp_sites.specs.Hooked.{bit_of}
use Rattle.klp_sites.proofs.HookedLemmas.{bit_out, bit_put}
use Rattle.klp_sites.proofs.hooked.HookedSites.remove.Goals as goal

pub returns : goal.returns
returns c other =
    let words = c.args.self.now.words in
    let number : ℕ = c.from-number.result in
    let is = c.from-number.ensures ∙ c.site.view_is in
    let long : length words ≡ 4 = search rules in
    let there : number / 64 < length words = omega (arith, is, long, c.requires) in
    let fits : get_or words (number / 64) 0 < 2 ^ 64 = search rules in
    bit_put words number _ 0 there (bit_out (get_or words (number / 64) 0) (number % 64) (omega arith) fits) other
    ∙ ap (λ site. cond (eqb other site) 0 (bit_of words other)) is

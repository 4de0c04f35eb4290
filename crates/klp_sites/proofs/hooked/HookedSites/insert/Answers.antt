use Rattle.std.proofs.Common.{◌≡◌, ℕ, ◌/◌, ◌%◌, ap, ◌∙◌, arith, rules, cond, eqb, get_or, length}
use Rattle.klp_sites.specs.Hooked.{bit_of}
use Rattle.klp_sites.proofs.HookedLemmas.{bit_in, bit_put}
use Rattle.klp_sites.proofs.hooked.HookedSites.insert.Goals as goal

pub returns : goal.returns
returns c other =
    let words = c.args.self.now.words in
    let number : ℕ = c.from-number.result in
    let is = c.from-number.ensures ∙ c.site.view_is in
    let long : length words ≡ 4 = search rules in
    bit_put words number _ 1 (omega (arith, is, long, c.requires)) (bit_in (get_or words (number / 64) 0) (number % 64) (omega arith)) other
    ∙ ap (λ site. cond (eqb other site) 1 (bit_of words other)) is

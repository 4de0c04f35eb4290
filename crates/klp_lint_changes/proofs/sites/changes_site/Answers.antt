use Rattle.std.proofs.Common.{◌≡◌, ℕ, Option, false, sym, ap, ◌∙◌, arith, below_more}
use Rattle.klp_types.specs.Setting.{functions_of, is_at}
use Rattle.klp_manager_state.specs.Managed.{setting_of}
use Rattle.klp_lint_changes.proofs.SiteLemmas.{site_numbered, site_there, none_there}
use Rattle.klp_lint_changes.proofs.sites.changes_site.Goals as goal

pub loop-number-init : goal.loop-number-init
loop-number-init g c = λ number below. absurd (omega (arith, below))

pub loop-number-preserved : goal.loop-number-preserved
loop-number-preserved g c =
    let functions = functions_of (setting_of c.args.manager.now.managed) c.args.patch in
    below_more (λ (n : ℕ). is_at (site_numbered functions n) c.args.site ≡ false) c.loop-number.number c.loop-number.invariant
    (ap (λ (own : Option ℕ). is_at own c.args.site) (sym c.site_of.ensures) ∙ sym c.is_at.ensures ∙ c.if-is_at.false)

pub returns-then-is_at : goal.returns-then-is_at
returns-then-is_at g c =
    let functions = functions_of (setting_of c.args.manager.now.managed) c.args.patch in
    sym (site_there functions c.loop-number.number c.args.site
    (ap (λ (own : Option ℕ). is_at own c.args.site) (sym c.site_of.ensures) ∙ sym c.is_at.ensures ∙ c.if-is_at.true))

pub returns : goal.returns
returns g c =
    sym (none_there (functions_of (setting_of c.args.manager.now.managed) c.args.patch) c.args.site
    (λ number below. c.loop-number.invariant number (omega (arith, below))))

use Rattle.std.proofs.Common.{rules}
use Rattle.sellers.specs.Reached.{highest_reaches, reaches_only}
use Rattle.sellers.proofs.tiers.TierPrices.tier.Goals as goal

pub returns-clause-value : goal.returns-clause-value
returns-clause-value c = reaches_only c.args.self.now.prices c.args.price _ _ (search rules) (highest_reaches c.args.self.now.prices c.args.price c.args.self.now.capped)

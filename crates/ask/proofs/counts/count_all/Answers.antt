-- `count_all` meets its contract: the sweep counts the points.
use mathlib.Core.Path.{refl}
use Rattle.ask.proofs.LoadedPoints.{all_loaded, loaded_ready, all_counted}
use borrow.Author.Rules.{rules}
use Rattle.ask.proofs.counts.count_all.Goals as goal

pub sweep-requires : goal.sweep-requires
sweep-requires c = loaded_ready (all_loaded c.args.w.now c.requires.0 c.requires.1 c.reference_of.ensures) (search rules) c.requires.2

pub returns : goal.returns
returns c = all_counted refl (all_loaded c.args.w.now c.requires.0 c.requires.1 c.reference_of.ensures) c.sweep.ensures.total c.sweep.ensures.contributions

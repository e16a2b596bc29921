-- What an argument and a subcommand add to what a command reads.
use Rattle.portal_words.proofs.Base.{◌≡◌, ◌∙◌, false, ap, ap₂, AddsArg, AddsSubcommand, App, Rule, rule_of, with_rule}
use Rattle.portal_words.proofs.Base.{with_subcommand, Reads}
use Rattle.std.proofs.lemmas.Bool.{or_from}
use Rattle.clap.specs.declared.builder.arg.Arg.{Arg}
use Rattle.clap.specs.declared.builder.command.Command.{Command}
use Rattle.clap.specs.declared.builder.command.Command.TheViews.{out-Command}

pub Reads-arg : (old : Command) (arg : Arg) (new : Command) (a : App) (r : Rule) → Reads old a → rule_of arg ≡ r
    → arg.global ≡ false → AddsArg old arg new → Reads new (with_rule a r)
Reads-arg old arg new a r h is local adds = record {
  app = adds.shape local ∙ ap₂ with_rule h.app is;
  local = adds.globals ∙ or_from (out-Command old).has_globals arg.global h.local local;
}

pub Reads-subcommand : (old sub new : Command) (a s : App) → Reads old a → Reads sub s → AddsSubcommand old sub new
    → Reads new (with_subcommand a s.top)
Reads-subcommand old sub new a s h k adds = record {
  app = adds.shape k.local ∙ ap₂ with_subcommand h.app (ap (λ (x : App). x.top) k.app);
  local = adds.globals ∙ or_from (out-Command old).has_globals (out-Command sub).has_globals h.local k.local;
}

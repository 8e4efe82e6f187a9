use Rattle.std.proofs.Common.{◌≡◌, ℕ, refl, ◌∙◌}
use Rattle.scope_builders.specs.declared.done_channels.DoneChannels.{DoneChannels}
use Rattle.scope_builders.proofs.Chains.{finished_all, ends_as, ends_of, added_as, told_of_as}
use Rattle.scope_builders.proofs.parts.finish_with.Goals as goal

pub returns : goal.returns
returns g c =
    let first = c.args.done.now in
    let l = g.met.J.JobFloor.legal c.finish_up.new.self.floor.now in
    let k = finished_all
    (λ (n : ℕ) (e : DoneChannels g.row.C.Denot g.row.C-Anchor.Denot g.C.ChannelFloor).
    (e.channels.ghost_name ≡ first.channels.ghost_name) × (e.who ≡ n) × (e.base ≡ first.base) × (e.rows ≡ first.rows)
    × (g.C.ChannelFloor.anchor e.channels.now ≡ g.C.ChannelFloor.anchor first.channels.now))
    (λ (e : DoneChannels g.row.C.Denot g.row.C-Anchor.Denot g.C.ChannelFloor). g.C.ChannelFloor.view e.channels.now)
    (g.met.J.JobFloor.shaped c.args.caller.now.floor.now)
    (record {
      legal = λ e. g.met.C.ChannelFloor.legal e.channels.now;
      gets_ready = λ n d e h p. ((h.0 ∙ p.0, h.1 ∙ p.1, h.2 ∙ p.2, h.3 ∙ p.3, h.4 ∙ p.4), added_as p.1 h.5);
      ends = λ n d e j k row end items h p.
          ((h.0 ∙ p.0, h.1 ∙ p.1, h.2 ∙ p.2, h.3 ∙ p.3, h.4 ∙ p.4), ends_as p.1 p.2 (ends_of (p.3 ∙ c.requires.rows) h.5));
      is_left = λ n d e j h p. ((h.0 ∙ p.0, h.1 ∙ p.1, h.2 ∙ p.2, h.3 ∙ p.3, h.4 ∙ p.4), told_of_as p.1 h.5);
    })
    c.requires.can.attached l (refl, c.requires.who, refl, refl, refl) c.finish_up.ensures.finished
    in
    record {
      same = c.finish_up.ensures.same;
      same_channels = k.0.0;
      channels_anchor = k.0.4;
      finished = k.1;
    }

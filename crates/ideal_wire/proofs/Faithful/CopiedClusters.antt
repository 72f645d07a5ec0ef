-- A driver whose clusters have the bytes of a chain: its loads lie as they lay, and its wire with these bytes is
-- faithful.
use Rattle.std.proofs.Common.{◌≡◌, ℕ, false, Option, Some, None, is_some, refl, ap, sym, ◌∙◌, subst}
use Rattle.busdma_machine.specs.declared.bounce.hold.HubReply.{HubReply}
use Rattle.busdma_machine.specs.declared.bounce.hold.HubReply.TheVariants as reply
use Rattle.busdma_machine.specs.declared.machine.bio.Bio.TheVariants.{Vector}
use Rattle.busdma_machine.specs.declared.report.Judged.TheVariants.{Fine}
use Rattle.busdma_machine.specs.Machine.Wire.{Wire, put}
use Rattle.busdma_rules.specs.Lending.Access.{cpu_read_answer, cpu_write_answer}
use Rattle.ideal_lane.specs.Accesses.{values}
use Rattle.ideal_lane.specs.IdealMemory.{Content, is_known}
use Rattle.ideal_lane.specs.Loads.{load_judged}
use Rattle.ideal_lane.specs.Sends.{Send, chain_bytes, cluster_bytes, copied}
use Rattle.ideal_lane.specs.State.{LaneState}
use Rattle.ideal_wire.specs.Apart.{IsApart}
use Rattle.ideal_wire.specs.Centre.{IsFaithful}
use Rattle.ideal_wire.specs.Laid.{AreLaid}
use Rattle.ideal_wire.specs.Machine.{IsInMachine}
use Rattle.ideal_wire.specs.Mapped.{AreMapped}
use Rattle.ideal_wire.specs.NewRuns.{BringsNew}
use Rattle.ideal_wire.specs.Spaced.{AreSpaced}
use Rattle.ideal_wire.specs.Traces.{traces_of}
use Rattle.ideal_wire.specs.WireStep as wire
use Rattle.ideal_wire.specs.WireStep.{Follows}
use Rattle.ideal_wire.proofs.Loads.Clusters.{bytes-own}
use Rattle.ideal_wire.proofs.Faithful.FaithfulAccess.{cpu_read_of, cpu_written}
use Rattle.ideal_wire.proofs.Faithful.PlacedLoads.{own}
use Rattle.ideal_wire.proofs.Laid.SameBytes.{judged-same}
use Rattle.ideal_wire.proofs.Laid.StillLaid.{written-still}
use Rattle.ideal_wire.proofs.Faithful.Wiring.{faithful, own-written}

module _ (l : LaneState) (s : Send) where
  -- the same bytes are the driver's own
  pub copied-own : (a : ℕ) → is_some ((copied s l).memory a) ≡ is_some (l.memory a)
  copied-own = own-written (cluster_bytes s l) (values l (chain_bytes s l)) l.memory

  pub copied-laid : AreLaid l → AreLaid (copied s l)
  copied-laid laid = written-still l laid (cluster_bytes s l) (values l (chain_bytes s l))

  pub copied-spaced : AreSpaced l → AreSpaced (copied s l)
  copied-spaced h = record { each = h.each; none = h.none }

  pub copied-mapped : AreMapped l → AreMapped (copied s l)
  copied-mapped h = record {
    each = λ m o e d g. let y = h.each m o e d g in record { run = y.run; found = y.found };
    alone = h.alone;
  }

  pub copied-machine : IsInMachine l → IsInMachine (copied s l)
  copied-machine h = record {
    numbered = h.numbered;
    pages = h.pages;
    mems = h.mems;
    tags = h.tags;
    bios = h.bios;
    clusters = h.clusters;
    unlike = h.unlike;
    due = λ t e. judged-same l (copied s l) refl refl t.map (Vector t.chain) ∙ h.due t e;
  }

  -- frames that are new to it are so
  pub copied-new : (r : HubReply) → BringsNew l r → BringsNew (copied s l) r
  copied-new (reply.Run first count) new = record {
    whole = new.whole;
    below = new.below;
    fresh = λ a inside. copied-own a ∙ new.fresh a inside;
  }
  copied-new _ new = new

  -- what follows the step after the copy follows it from the driver before
  pub copied-follows : (k : LaneState) (after w' : Wire) → Follows l k after w' → Follows (copied s l) k after w'
  copied-follows k after w' h = record {
    own = λ a was is. h.own a (sym (copied-own a) ∙ was) is;
    pages = h.pages;
    known = λ a v none is. h.known a v (gone a none) is;
  }
    where
      gone : (a : ℕ) → (copied s l).memory a ≡ None → l.memory a ≡ None
      gone a none = by (l.memory a) (sym (copied-own a) ∙ ap is_some none)
        where
          by : (o : Option Content) →
              is_some o ≡ false → o ≡ None
          by None e = refl
          by (Some c) e = absurd (cc)

  -- the wire in which the clusters have the bytes of the chain is faithful
  pub copied-faithful : (w : Wire) (apart : IsApart l) (laid : AreLaid l) → IsFaithful l w →
      load_judged l s.map (Vector s.clusters) ≡ Fine →
      cpu_read_answer (is_known l.memory) l.loans (chain_bytes s l) ≡ Fine →
      cpu_write_answer l.loans (cluster_bytes s l) ≡ Fine → IsFaithful (copied s l) (wire.wire_copied s l w)
  copied-faithful w apart laid f fine reads writes =
      let g =
      cpu_written (own l laid apart) l (traces_of l) w (faithful l w apart laid f) (cluster_bytes s l)
      (values l (chain_bytes s l)) (bytes-own l laid s s.clusters fine) writes in
      subst (λ vs. IsFaithful (copied s l) (put (cluster_bytes s l) vs w))
      (cpu_read_of l w (chain_bytes s l) f.agrees.kept reads)
      (record { exclusive = g.exclusive; agrees = g.agrees })

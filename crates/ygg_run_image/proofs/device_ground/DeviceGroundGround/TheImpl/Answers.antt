use Rattle.ygg_run_image.proofs.device_ground.DeviceGroundGround.TheImpl.Goals as goal

pub lose-tells : goal.lose-tells
lose-tells g c = absurd (cc c.requires)

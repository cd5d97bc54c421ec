-- What a line goes by of every pixel.
use Rattle.line_pixels.specs.declared.Screen.{Screen}
use Rattle.line_setup.specs.declared.setup.Setup.{Setup}

-- the switches, the depth, where the cursor is, and the line's number (CHIP 6.7)
abbrev pub screen_in : Setup → Screen
screen_in setup =
    record {
      overlay = setup.controls.overlay;
      cursor = setup.controls.cursor;
      crosshair = setup.controls.crosshair;
      depth = setup.controls.depth;
      cx = setup.controls.cx;
      cy = setup.controls.cy;
      y = setup.y;
    }
